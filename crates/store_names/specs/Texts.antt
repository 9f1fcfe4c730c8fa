-- What is before and after a byte in a text.
use Rattle.std.specs.Prelude.{◌≡◌, ℕ, Bool, true, not, ◌==◌, List, ◌∷◌, ◌++◌}
use Rattle.std.specs.List.{list_all}

-- no byte of a text is this one
abbrev pub lacks : ℕ → List ℕ → Bool
lacks mark text = list_all (λ byte. not (byte == mark)) text

-- a text is what is before the first of a byte, the byte, and what is after it
pub record IsAroundFirst (mark : ℕ) (text before after : List ℕ) : Type 0 where
  pub is : text ≡ before ++ (mark ∷ after)
  pub first : lacks mark before ≡ true

-- and the same of the last one
pub record IsAroundLast (mark : ℕ) (text before after : List ℕ) : Type 0 where
  pub is : text ≡ before ++ (mark ∷ after)
  pub last : lacks mark after ≡ true
