-- Members of lists, by their places.
use Rattle.std.proofs.Common.{◌≡◌, ℕ, zero, suc, ◌<◌, List, [], ◌∷◌, ◌++◌, length, map, get_or, refl, sym, ap, arith}
use Rattle.std.specs.List.{AllZip}
use mathlib.Core.Option.{some, some-ne-none, some-injective}
use lib.ListN.{get_elem?}

module _ {A B : Type 0} where
  pub map_length : (f : A → B) (xs : List A) → length (map f xs) ≡ length xs
  map_length f [] = refl
  map_length f (x ∷ xs) = ap suc (map_length f xs)

module _ {A : Type 0} where
  pub place_is : (xs : List A) (k : ℕ) (x d : A) → get_elem? xs k ≡ some x → get_or xs k d ≡ x
  place_is [] k x d at = absurd (some-ne-none x (sym at))
  place_is (y ∷ ys) zero x d at = some-injective y x at
  place_is (y ∷ ys) (suc k) x d at = place_is ys k x d at

  pub there : (xs : List A) (k : ℕ) → k < length xs → (x : A) × (get_elem? xs k ≡ some x)
  there [] k low = absurd (omega arith)
  there (x ∷ xs) zero low = (x, refl)
  there (x ∷ xs) (suc k) low = there xs k (omega arith)

pub all_zip_push : {A B : Type 0} (R : A → B → Type 0) (xs : List A) (ys : List B) (x : A) (y : B) → AllZip R xs ys → R x y
    → AllZip R (xs ++ x ∷ []) (ys ++ y ∷ [])
all_zip_push R [] [] x y all here = (here, tt)
all_zip_push R [] (q ∷ ys) x y all here = absurd all
all_zip_push R (p ∷ xs) [] x y all here = absurd all
all_zip_push R (p ∷ xs) (q ∷ ys) x y all here = (all.0, all_zip_push R xs ys x y all.1 here)
