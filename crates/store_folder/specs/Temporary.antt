-- The paths of files that aren't whole yet.
use Rattle.std.specs.Prelude.{◌≡◌, ℕ, List, Bool, true, not}
use Rattle.store_names.specs.Temporary.{is_free}

-- some part of the path is a name as unfinished files have it
abbrev pub is_temporary : List ℕ → Bool
is_temporary path = not (is_free path)

-- a test that they pass
abbrev pub AreTaken : (List ℕ → Bool) → Type 0
AreTaken taken = (path : List ℕ) → is_temporary path ≡ true → taken path ≡ true
