-- What a fault of serving leaves, and how often devices failed.
use Rattle.std.specs.Prelude.{◌≡◌, ◌+◌, ◌⊎◌, ℕ, List, IfSome}
use Rattle.lrc_code.specs.declared.outcomes.Outcome.{Outcome}
use Rattle.farm_lists.specs.declared.listing.Record.{Record}
use Rattle.farm_shelves.specs.Files.{StopsWriting, Shown}
use Rattle.farm_shelves.specs.declared.shelf.ShelfFault.{ShelfFault}
use Rattle.farm_shelves.specs.declared.shelf.ShelfFault.TheVariants as shelf_fault
use Rattle.farm_reading.specs.declared.faults.ServeFault.{ServeFault}
use Rattle.farm_reading.specs.declared.faults.ServeFault.TheVariants as fault
use Rattle.farm_reading.specs.Reading.{Reads}
use Rattle.farm_files.specs.Serving.{Serves, written_files}

-- a write of what serving these files gives failed
abbrev pub StopsServing : ShelfFault → Shown → Shown → Shown → Type 0
StopsServing f there old new = IfSome there (λ t. (lists : List (List (List Record))) × (reads : List (List (List Reads)))
    × (answers : List (List (ℕ × Outcome)))
    × Serves t lists reads answers × StopsWriting f (written_files t lists reads answers) old new)

-- what a fault leaves of the output, whose device failed so often before and after: a failed write leaves it as StopsWriting says,
-- and where the failed device was the input's it is as it was
abbrev pub LeavesOutput : ServeFault → Shown → Shown → Shown → ℕ → ℕ → Type 0
LeavesOutput fault.Device there old new before after = ((after ≡ before) × (new ≡ old))
    ⊎ ((after ≡ before + 1) × StopsServing shelf_fault.Device there old new)
LeavesOutput fault.OutOfMemory there old new before after =
    (after ≡ before) × ((new ≡ old) ⊎ StopsServing shelf_fault.OutOfMemory there old new)
LeavesOutput fault.NoThread there old new before after = (after ≡ before) × (new ≡ old)
LeavesOutput fault.NoRacks there old new before after = (after ≡ before) × (new ≡ old)
LeavesOutput fault.TooManyRacks there old new before after = (after ≡ before) × (new ≡ old)
LeavesOutput fault.BadFeeds there old new before after = (after ≡ before) × (new ≡ old)
LeavesOutput (fault.List rack feed reason) there old new before after = (after ≡ before) × (new ≡ old)

-- how often the input's device failed, and the output's, in serving that ended in this fault: one of them ended it, or neither; reads of
-- fragments may have failed before, but not where a list ended it
abbrev pub CountsServing : ServeFault → ℕ → ℕ → ℕ → ℕ → Type 0
CountsServing fault.Device before after from to = ((after ≡ before + 1) × (to ≡ from)) ⊎ (to ≡ from + 1)
CountsServing fault.OutOfMemory before after from to = to ≡ from
CountsServing fault.NoThread before after from to = to ≡ from
CountsServing fault.NoRacks before after from to = (after ≡ before) × (to ≡ from)
CountsServing fault.TooManyRacks before after from to = (after ≡ before) × (to ≡ from)
CountsServing fault.BadFeeds before after from to = (after ≡ before) × (to ≡ from)
CountsServing (fault.List rack feed reason) before after from to = (after ≡ before) × (to ≡ from)
