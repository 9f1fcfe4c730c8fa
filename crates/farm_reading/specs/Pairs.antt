-- Two lists, member by member.
use Rattle.std.specs.Prelude.{List, [], ◌∷◌}

-- a function's values at the members of two lists that are at the same place, as far as both lists go
abbrev pub zip_with : {A B C : Type 0} → (A → B → C) → List A → List B → List C
zip_with f [] ys = []
zip_with f (x ∷ xs) [] = []
zip_with f (x ∷ xs) (y ∷ ys) = f x y ∷ zip_with f xs ys
