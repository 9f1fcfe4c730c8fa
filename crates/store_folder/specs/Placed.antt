-- New files that get names.
use Rattle.std.specs.Prelude.{ℕ, List, IsSomeAnd, Option, Result, Ok, Err, string_bytes}
use Rattle.folders.specs.Calls.{Answered}
use Rattle.folders.specs.Disk.{HasWhole}
use Rattle.folders.specs.Placed.{WasRefused}
use Rattle.folders.specs.declared.folder.NewFile.{Ghosts}
use Rattle.store_folder.specs.declared.placing.NewFile.{NewFile}
use Rattle.stores.specs.declared.store.Placed.{Placed as PlacedName}
use Rattle.stores.specs.declared.store.Placed.TheVariants as outcome

-- what was written to a new file; nothing is said if bytes are missing
abbrev pub content_of : {N : Type 0} {G : Ghosts N} → NewFile N G → Option (List ℕ)
content_of {G = G} new = G.written new.unfinished.file

-- the temporary path at which a new file was made
abbrev pub path_of : {N : Type 0} {G : Ghosts N} → NewFile N G → List ℕ
path_of new = string_bytes new.unfinished.made_at

-- what became of a file that was to get a path at which nothing is, by what the system answered
abbrev pub outcome_by : {T E : Type 0} → Result T E → PlacedName
outcome_by (Ok done) = outcome.Placed
outcome_by (Err error) = outcome.IsThere

-- What became of a file that was to get a path: no bytes of it are missing, and the path leads to it, and its bytes are on the disk. Or
-- something was there.
abbrev pub IsPlacedAt : List ℕ → Option (List ℕ) → List Answered → PlacedName → Type 0
IsPlacedAt path written calls outcome.Placed = IsSomeAnd written (λ bytes. HasWhole path bytes calls)
IsPlacedAt path written calls outcome.IsThere = WasRefused path calls
