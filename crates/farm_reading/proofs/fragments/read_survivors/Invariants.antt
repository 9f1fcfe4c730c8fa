use Rattle.std.proofs.Common.{◌≡◌, ◌≤◌, ◌+◌, Some, take, map}
use Rattle.std.specs.List.{filter_map}
use Rattle.lrc_code.specs.Survivors.{survivors_of}
use Rattle.farm_shelves.specs.Files.{Files}
use Rattle.farm_reading.specs.Reading.{Reads, failures, survivor, unread}
use Rattle.farm_lists.specs.Parts.{ArePart}
use Rattle.farm_reading.proofs.fragments.read_survivors.Given as goal

abbrev pub invariant-loop-index : goal.invariant-loop-index
invariant-loop-index g l =
    (reads : Reads)
    × (map (λ q. q.0) reads ≡ take l.index l.places)
    × (g.I.Shelf.files l.input ≡ g.I.Shelf.files l.fn.input)
    × (g.I.Shelf.failed l.input ≡ g.I.Shelf.failed l.fn.input + failures reads)
    × (g.I.Shelf.failed l.input ≤ g.I.Shelf.failed l.fn.input + l.index)
    × ArePart l.listed.len (take l.index l.places) (survivors_of l.fragments.items)
    × ((there : Files) → g.I.Shelf.files l.fn.input ≡ Some there
    → (survivors_of l.fragments.items ≡ filter_map (survivor there l.listed) reads) × (l.unread.items ≡ unread there l.listed reads))
