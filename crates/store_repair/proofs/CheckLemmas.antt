-- What the rows of checks say of bytes.
use Rattle.std.proofs.Common.{◌≡◌, ◌∙◌, ◌<◌, ◌^◌, ℕ, List, [], All, Bool, true, false, ap, arith, cond, get_or, inl, inr, length, map, refl}
use Rattle.std.proofs.Common.{◌∷◌, lit<, replicate, subst, sym}
use Rattle.std.proofs.lemmas.Bool.{cases_Bool}
use Rattle.lrc_field.specs.Field.{times}
use Rattle.lrc_field.specs.Sums.{combination}
use Rattle.lrc_field.proofs.FieldLaws.{times-one_r, times-zero, times-zero_r}
use Rattle.lrc_code.specs.declared.places.Place.{Place}
use Rattle.lrc_code.specs.declared.places.Place.TheVariants.{X0}
use Rattle.lrc_code.specs.declared.codes.Code.{Code as CodeName}
use Rattle.lrc_code.specs.Code.{AreBytes}
use Rattle.lrc_code.specs.Codes.{tables_of}
use Rattle.lrc_code.specs.Places.{all_places, index_of, same_place}
use Rattle.lrc_code.specs.Sums.{GivesBytes}
use Rattle.lrc_code.proofs.Combinations.{combination-zeros}
use Rattle.lrc_code.proofs.PlaceSums.{combination-sum_over, index_at, index_of-lt, sum_over-same, sum_over-single}
use Rattle.lrc_plan.specs.RowPlans.{AreCheckRows}
use Rattle.lrc_plan.specs.Stripes.{at_place, AreWhole, IsPossible}
use Rattle.lrc_plan.proofs.Stripes.{possible}
use Rattle.store_repair.specs.Losses.{CanContradict, CannotContradict, HasTerm}

-- 01 at a place, and 00 elsewhere
one_at : Place → Place → ℕ
one_at q p = cond (same_place q p) 1 0

one_small : (q : Place) → GivesBytes (one_at q)
unfolding one_at
one_small q p = elim (cases_Bool (same_place q p)) as (λ _. cond (same_place q p) 1 0 < 256) [
  | inl is ↦ rw is (omega arith)
  | inr isnt ↦ rw isnt (omega arith)
]

product : (b : Bool) (c : ℕ) → times c (cond b 1 0) ≡ cond b (times c 1) 0
product true c = refl
product false c = times-zero_r c

-- a row's combination of these is its coefficient at the place
coefficient_of : (row : List ℕ) (q : Place) → get_or row (index_of q) 0 < 2 ^ 8
    → combination row (map (one_at q) all_places) ≡ get_or row (index_of q) 0
unfolding one_at
coefficient_of row q small =
    combination-sum_over row (one_at q)
    ∙ sum_over-same all_places (λ p. times (get_or row (index_of p) 0) (one_at q p))
    (λ p. cond (same_place q p) (times (get_or row (index_of p) 0) 1) 0)
    (λ p. product (same_place q p) (get_or row (index_of p) 0))
    ∙ sum_over-single q (λ p. times (get_or row (index_of p) 0) 1)
    ∙ times-one_r (get_or row (index_of q) 0) small

-- where a row of checks has a term, some bytes contradict each other
pub contradicts : (code : CodeName) (survives : Place → Bool) (rows : List (List ℕ)) → AreCheckRows (tables_of code) survives rows
    → (r : ℕ) (d : List ℕ) → r < length rows → HasTerm (get_or rows r d) → CanContradict code survives
contradicts code survives rows are r d lt (k, within, some, small) =
    let q = get_or all_places k X0 in
    let row = get_or rows r d in
    let at : index_of q ≡ k = index_at k within in (
      one_at q,
      one_small q,
      λ e extends. absurd (
          let zero = (are.possible (one_at q) (one_small q)).0 (e, extends) r d lt in
          let is = coefficient_of row q (subst (λ n. get_or row n 0 < 2 ^ 8) (sym at) small) in
          let same = sym is ∙ zero in
          let here = ap (λ n. get_or row n 0) at in
          omega (arith, same, here, some)),
    )

zero_combination : (row : List ℕ) (s : Place → ℕ) → ((k : ℕ) → k < 16 → get_or row k 0 ≡ 0) → combination row (map s all_places) ≡ 0
zero_combination row s zero =
    combination-sum_over row s
    ∙ sum_over-same all_places (λ p. times (get_or row (index_of p) 0) (s p)) (λ p. 0)
    (λ p. ap (λ c. times c (s p)) (zero (index_of p) (index_of-lt p)) ∙ times-zero (s p))

-- where no row of checks has a term, any bytes belong together
pub fits_any : (code : CodeName) (survives : Place → Bool) (rows : List (List ℕ)) → AreCheckRows (tables_of code) survives rows
    → ((r : ℕ) (d : List ℕ) → r < length rows → (k : ℕ) → k < 16 → get_or (get_or rows r d) k 0 ≡ 0) → CannotContradict code survives
fits_any code survives rows are zero s small =
    (are.possible s small).1 (λ r d lt. zero_combination (get_or rows r d) s (zero r d lt))

-- and so do those of survivors
pub unchecked_possible : (code : CodeName) (survives : Place → Bool) (at : List (List ℕ)) (len : ℕ) → AreWhole code survives at len
    → All AreBytes at → length at ≡ 16 → CannotContradict code survives → IsPossible (tables_of code) survives (at_place at) len
unchecked_possible code survives at len whole small sixteen fits =
    possible code survives at len whole small sixteen []
    (record {
      reads = λ k d lt. absurd (omega (arith, lt));
      possible = λ s bytes. (λ some k d lt. absurd (omega (arith, lt)), λ all. fits s bytes);
    })
    (λ k d lt. absurd (omega (arith, lt)))

abbrev no_byte : Place → ℕ
no_byte p = 0

zeros_of : (ps : List Place) → map no_byte ps ≡ replicate (length ps) 0
zeros_of [] = refl
zeros_of (p ∷ ps) = ap (λ xs. 0 ∷ xs) (zeros_of ps)

-- no bytes contradict each other where nothing survives
pub fits_none : (code : CodeName) (survives : Place → Bool) → ((p : Place) → survives p ≡ false) → CannotContradict code survives
fits_none code survives out s small = (
  no_byte,
  record {
    bytes = λ p. lit< tt;
    solves = λ k d lt. ap (combination (get_or (tables_of code).equations k d)) (zeros_of (tables_of code).places)
        ∙ combination-zeros (get_or (tables_of code).equations k d) (length (tables_of code).places);
    kept = λ p on. absurd (let never = sym (out p) ∙ on in cc);
  },
)
