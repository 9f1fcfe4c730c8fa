-- The first index of a byte, and the lines of a text, taken off from its front.
use Rattle.std.proofs.Common.{◌≡◌, ◌<◌, ◌-◌, ◌+◌, ◌∙◌, ◌==◌, ℕ, Bool, true, false, List, [], ◌∷◌, length, take, drop, refl, ap, arith, Some}
use Rattle.std.proofs.Common.{None, cond, position, not, inl, inr}
use Rattle.std.specs.Prelude.{nat_lt, unwrap_or}
use Rattle.std.specs.List.{after_first, before_first, onto_first, position_or_len, slice_split}
use Rattle.std.specs.Str.Lines.{lines, lines_of_parts, strip_carriage_return}
use Rattle.std.proofs.lemmas.Bool.Decides.{eqb_tells}
use Rattle.std.proofs.lemmas.List.{take_all, length-drop}
use Rattle.std.proofs.lemmas.List.Sums.{fails_before_first, prefix_len-le-length}
use Rattle.std.proofs.lemmas.List.Splits.{slice_split_first, slice_split_none}
use borrow.Author.Tests.{ltb-true, ltb-false}

-- where the first element that passes is
pub from_position : {X : Type 0} (p : X → Bool) (xs : List X) (i : ℕ) → position p xs ≡ Some i → (position_or_len p xs ≡ i)
    × (i < length xs)
from_position p xs i e = by (nat_lt (position_or_len p xs) (length xs)) refl e
  where
    by : (b : Bool) → nat_lt (position_or_len p xs) (length xs) ≡ b → cond b (Some (position_or_len p xs)) None ≡ Some i
        → (position_or_len p xs ≡ i) × (i < length xs)
    by true t h = let same : position_or_len p xs ≡ i = cc in (same, rw same at (ltb-true _ _ t))
    by false t h = cc

pub from_no_position : {X : Type 0} (p : X → Bool) (xs : List X) → position p xs ≡ None → position_or_len p xs ≡ length xs
from_no_position p xs e = by (nat_lt (position_or_len p xs) (length xs)) refl e
  where
    by : (b : Bool) → nat_lt (position_or_len p xs) (length xs) ≡ b → cond b (Some (position_or_len p xs)) None ≡ None
        → position_or_len p xs ≡ length xs
    by true t h = cc
    by false t h = omega (arith, ltb-false _ _ t, prefix_len-le-length (λ x. not (p x)) xs)

pub unwrap_or-position : {X : Type 0} (p : X → Bool) (xs : List X) → unwrap_or (position p xs) (length xs) ≡ position_or_len p xs
unwrap_or-position p xs = by (nat_lt (position_or_len p xs) (length xs)) refl
  where
    by : (b : Bool) → nat_lt (position_or_len p xs) (length xs) ≡ b
        → unwrap_or (cond b (Some (position_or_len p xs)) None) (length xs) ≡ position_or_len p xs
    by true t = refl
    by false t = omega (arith, ltb-false _ _ t, prefix_len-le-length (λ x. not (p x)) xs)

-- what is after an index, as a slice up to the end gives it
pub take-drop_all : {X : Type 0} (xs : List X) (i : ℕ) → take (length xs - i) (drop i xs) ≡ drop i xs
take-drop_all xs i = take_all _ _ (omega (arith, length-drop i xs))

-- ---- lines

-- a text has a first part
first_part : (p : ℕ → Bool) (xs : List ℕ) → (y : List ℕ) × (more : List (List ℕ)) × (slice_split p xs ≡ y ∷ more)
first_part p [] = ([], [], refl)
first_part p (x ∷ xs) = elim (p x) as (λ b. (y : List ℕ) × (more : List (List ℕ))
    × (cond b ([] ∷ slice_split p xs) (onto_first x (slice_split p xs)) ≡ y ∷ more)) [
      | true ↦ ([], slice_split p xs, refl)
      | false ↦ let (y, more, e) = first_part p xs in (x ∷ y, more, ap (onto_first x) e)
    ]

lines-first : (xs : List ℕ) → position_or_len (λ b. b == 10) xs < length xs
    → lines xs ≡ strip_carriage_return (before_first (λ b. b == 10) xs) ∷ lines (after_first (λ b. b == 10) xs)
lines-first xs within =
    let (y, more, e) = first_part (λ b. b == 10) (after_first (λ b. b == 10) xs) in
    ap lines_of_parts (slice_split_first (λ b. b == 10) xs 0 within) ∙ rw e refl

-- a line feed ends the first line
pub lines_at : (xs : List ℕ) (i : ℕ) → position (λ b. b == 10) xs ≡ Some i
    → lines xs ≡ strip_carriage_return (take i xs) ∷ lines (take (length xs - (i + 1)) (drop (i + 1) xs))
lines_at xs i e =
    let (at, within) = from_position (λ b. b == 10) xs i e in
    let in_range : position_or_len (λ b. b == 10) xs < length xs = rw at within in
    rw (take-drop_all xs (i + 1)) (rw at at (lines-first xs in_range))

-- a text with no line feed that isn't empty is one line
pub lines_last : (xs : List ℕ) → position (λ b. b == 10) xs ≡ None → (length xs ≡ 0 → ⊥) → lines xs ≡ xs ∷ []
lines_last xs none some =
    let far = from_no_position (λ b. b == 10) xs none in
    ap lines_of_parts (slice_split_none (λ b. b == 10) xs (λ k d h. fails_before_first (λ b. b == 10) xs k d (omega (arith, h, far))))
    ∙ one xs some
  where
    one : (ys : List ℕ) → (length ys ≡ 0 → ⊥) → lines_of_parts (ys ∷ []) ≡ ys ∷ []
    one ys h = elim (eqb_tells (length ys) 0) [ inl p ↦ absurd (h p.1) | inr p ↦ rw (p.0) refl ]
