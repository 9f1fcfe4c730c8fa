-- What calls leave that write a file in place of the one that is there, whenever they end.
use Rattle.std.specs.Prelude.{ℕ, List, Option}
use Rattle.folders.specs.Calls.{Answered}
use Rattle.folders.specs.Given.{Gives, IsNewAt, Nothing}
use Rattle.store_folder.specs.Kept.{IsTemporary}

-- Each path but temporary ones has what it had, or all the bytes of a new file that it was to get, or nothing if it was to go.
abbrev pub Puts : (List ℕ → Option (List ℕ) → Type 0) → List Answered → List Answered → Type 0
Puts puts old new = Gives IsTemporary Nothing puts old new

-- so it is of one path
abbrev pub PutsOne : List ℕ → Option (List ℕ) → List Answered → List Answered → Type 0
PutsOne path content old new = Puts (IsNewAt path content) old new
