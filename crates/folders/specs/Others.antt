-- What a run of calls leaves as it is at the paths that it doesn't touch.
use Rattle.std.specs.Prelude.{ℕ, List}
use Rattle.folders.specs.Calls.{Answered}
use Rattle.folders.specs.Disk.{HasWhole, IsOnDisk}
use Rattle.folders.specs.Placed.{WasRefused}

-- A whole file that a path leads to is there afterwards too, and on the disk if it was there. A path that was refused was so.
pub record StaysAt (path : List ℕ) (old new : List Answered) : Type 0 where
  pub whole : (bytes : List ℕ) → HasWhole path bytes old → HasWhole path bytes new
  pub on_disk : (bytes : List ℕ) → IsOnDisk path bytes old → IsOnDisk path bytes new
  pub refused : WasRefused path old → WasRefused path new

-- so it is of each path but those that may be touched
abbrev pub LeavesOthers : (List ℕ → Type 0) → List Answered → List Answered → Type 0
LeavesOthers touched old new = (path : List ℕ) → (touched path → ⊥) → StaysAt path old new
