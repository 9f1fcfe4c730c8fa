-- The letters that a loop has had.
use Rattle.std.proofs.Common.{◌≡◌, ap, refl, ℕ, List, [], ◌∷◌, map}

pub as_they_are : (letters : List ℕ) → map (λ letter. letter) letters ≡ letters
as_they_are [] = refl
as_they_are (x ∷ letters) = ap (λ t. x ∷ t) (as_they_are letters)
