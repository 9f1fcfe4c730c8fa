-- What lines show.
use Rattle.std.specs.Prelude.{ℕ, ⊤, ◌≤◌, ◌≢◌, List, [], ◌∷◌}

-- no byte is a control character of ASCII
abbrev pub AreShown : List ℕ → Type 0
AreShown [] = ⊤
AreShown (b ∷ bs) = (32 ≤ b) × (b ≢ 127) × AreShown bs
