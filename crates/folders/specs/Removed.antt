-- Paths that are taken away.
use Rattle.std.specs.Prelude.{◌≡◌, ℕ, List, ◌∷◌, true}
use Rattle.folders.specs.Calls.{Answered, remove}

-- the last call took this path away
abbrev pub EndsByRemoving : List ℕ → List Answered → Type 0
EndsByRemoving path calls = (before : List Answered) × (calls ≡ (remove path, true) ∷ before)
