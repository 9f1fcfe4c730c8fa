-- Sums over a list of which one member changes.
use Rattle.std.proofs.Common.{◌≡◌, ◌≢◌, ℕ, zero, suc, ◌+◌, ◌≤◌, List, [], ◌∷◌, ◌++◌, set, refl, sym, ap, arith}
use Rattle.std.specs.List.{sum_by}
use Rattle.std.proofs.lemmas.List.Sums.{sum_by-cons, sum_by-append}
use mathlib.Core.Option.{some, some-ne-none, some-injective}
use lib.ListN.{get_elem?}

module _ {A : Type 0} where
  pub total_set : (f : A → ℕ) (l : List A) (k : ℕ) (v w : A) → get_elem? l k ≡ some v → sum_by f (set l k w) + f v ≡ sum_by f l + f w
  total_set f [] k v w e = absurd (some-ne-none v (sym e))
  total_set f (x ∷ xs) zero v w e = omega (arith, sum_by-cons f w xs, sum_by-cons f x xs, ap f (some-injective x v e))
  total_set f (x ∷ xs) (suc k) v w e = omega (arith, sum_by-cons f x (set xs k w), sum_by-cons f x xs, total_set f xs k v w e)

  pub total_snoc : (f : A → ℕ) (l : List A) (w : A) → sum_by f (l ++ w ∷ []) ≡ sum_by f l + f w
  total_snoc f l w = omega (arith, sum_by-append f l (w ∷ []), sum_by-cons f w [])

  pub total_part : (f : A → ℕ) (l : List A) (k : ℕ) (v : A) → get_elem? l k ≡ some v → f v ≤ sum_by f l
  total_part f [] k v e = absurd (some-ne-none v (sym e))
  total_part f (x ∷ xs) zero v e = omega (arith, sum_by-cons f x xs, ap f (some-injective x v e))
  total_part f (x ∷ xs) (suc k) v e = omega (arith, sum_by-cons f x xs, total_part f xs k v e)

  pub total_two : (f : A → ℕ) (l : List A) (k j : ℕ) (v w : A) → j ≢ k → get_elem? l k ≡ some v → get_elem? l j ≡ some w
      → f v + f w ≤ sum_by f l
  total_two f [] k j v w n e d = absurd (some-ne-none v (sym e))
  total_two f (x ∷ xs) zero zero v w n e d = absurd (n refl)
  total_two f (x ∷ xs) zero (suc j) v w n e d = omega (arith, sum_by-cons f x xs, ap f (some-injective x v e), total_part f xs j w d)
  total_two f (x ∷ xs) (suc k) zero v w n e d = omega (arith, sum_by-cons f x xs, ap f (some-injective x w d), total_part f xs k v e)
  total_two f (x ∷ xs) (suc k) (suc j) v w n e d = omega (arith, sum_by-cons f x xs, total_two f xs k j v w (λ h. n (ap suc h)) e d)

  pub total_le : (f g : A → ℕ) (l : List A) → ((k : ℕ) (v : A) → get_elem? l k ≡ some v → f v ≤ g v) → sum_by f l ≤ sum_by g l
  total_le f g [] h = omega arith
  total_le f g (x ∷ xs) h = omega (arith, sum_by-cons f x xs, sum_by-cons g x xs, h zero x refl, total_le f g xs (λ k. h (suc k)))

  pub total_none : (f : A → ℕ) (l : List A) → ((k : ℕ) (v : A) → get_elem? l k ≡ some v → f v ≡ 0) → sum_by f l ≡ 0
  total_none f [] h = refl
  total_none f (x ∷ xs) h = omega (arith, sum_by-cons f x xs, h zero x refl, total_none f xs (λ k. h (suc k)))

  pub total_alone : (f : A → ℕ) (l : List A) (k : ℕ) (v : A) → get_elem? l k ≡ some v
      → ((j : ℕ) (w : A) → j ≢ k → get_elem? l j ≡ some w → f w ≡ 0) → sum_by f l ≡ f v
  total_alone f [] k v e h = absurd (some-ne-none v (sym e))
  total_alone f (x ∷ xs) zero v e h = omega (
    arith,
    sum_by-cons f x xs,
    ap f (some-injective x v e),
    total_none f xs
        (λ j w. h (suc j) w (λ q. omega arith)),
  )
  total_alone f (x ∷ xs) (suc k) v e h = omega (
    arith,
    sum_by-cons f x xs,
    h zero x (λ q. omega arith) refl,
    total_alone f xs k v e
        (λ j w n. h (suc j) w (λ q. n (omega arith))),
  )
