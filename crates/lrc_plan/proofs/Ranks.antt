-- All reductions of the same lost places have equally many pivots. Were they fewer in one, some bytes at the other's pivots, not
-- all 0, would have the sum 0 with each of its rows, and so would solve the equations; but a solution that is 0 at all places but
-- the pivots is 0 there too.
use Rattle.std.proofs.Common.{◌≡◌, ◌≢◌, ◌≤◌, ◌<◌, ℕ, zero, suc, ◌+◌, Bool, true, false, cond, not, ◌||◌, length, Option, Some, None}
use Rattle.std.proofs.Common.{is_none, refl, sym, ◌∙◌, ap, arith, inl, inr}
use Rattle.std.proofs.lemmas.Bool.{cases_Bool}
use Rattle.lrc_field.specs.Field.{times}
use Rattle.lrc_field.proofs.FieldLaws.{times-zero, times-zero_r, times-one}
use Rattle.lrc_code.specs.declared.places.Place.{Place}
use Rattle.lrc_code.specs.Places.{same_place, all_places}
use Rattle.lrc_code.specs.declared.codes.Code.{Code as CodeName}
use Rattle.lrc_code.specs.Code.{Code}
use Rattle.lrc_code.specs.Codes.{tables_of}
use Rattle.lrc_code.specs.Sums.{GivesBytes}
use Rattle.lrc_code.specs.Reduction.{Reduction, IsReduction}
use Rattle.lrc_code.proofs.PlaceSums.{same_place-eq, same_place-refl, sum_over-same, sum_over-single}
use Rattle.lrc_plan.specs.Rows.{coef_of, pivot_of, AreReduced, row_sum}
use Rattle.lrc_plan.specs.Planned.{rows_without_pivot}
use Rattle.lrc_plan.proofs.ReductionRows.{reduced_rows}
use Rattle.lrc_plan.proofs.Dependences.{apart_bools, neither, member, Apart, pivots_below, joined, Dependence, dependence}

count_pivots : (pivot : ℕ → Option Place) (n : ℕ) → length (pivots_below pivot n) + rows_without_pivot pivot n ≡ n
count_pivots pivot zero = refl
count_pivots pivot (suc n) = at (count_pivots pivot n) (pivot n)
  where
    at : length (pivots_below pivot n) + rows_without_pivot pivot n ≡ n → (o : Option Place)
        → length (joined o (pivots_below pivot n)) + (rows_without_pivot pivot n + cond (is_none o) 1 0) ≡ suc n
    at before None = omega (arith, before)
    at before (Some p) = omega (arith, before)

-- a pivot is the pivot of some row
row_of_pivot : (pivot : ℕ → Option Place) (n : ℕ) (q : Place) → member q (pivots_below pivot n) ≡ true
    → (i : ℕ) × (i < n) × (pivot i ≡ Some q)
row_of_pivot pivot zero q h = absurd (apart_bools (sym h))
row_of_pivot pivot (suc n) q h = at (row_of_pivot pivot n q) (pivot n) refl h
  where
    below : ((i : ℕ) × (i < n) × (pivot i ≡ Some q)) → (i : ℕ) × (i < suc n) × (pivot i ≡ Some q)
    below w = (w.0, omega (arith, w.1), w.2)

    at : (member q (pivots_below pivot n) ≡ true → (i : ℕ) × (i < n) × (pivot i ≡ Some q))
        → (o : Option Place) → pivot n ≡ o → member q (joined o (pivots_below pivot n)) ≡ true
        → (i : ℕ) × (i < suc n) × (pivot i ≡ Some q)
    at before None e k = below (before k)
    at before (Some p) e k = elim (cases_Bool (same_place q p)) [
      | inl t ↦ (n, omega arith, e ∙ ap Some (sym (same_place-eq q p t)))
      | inr f ↦ below (before (sym (ap (λ b. b || member q (pivots_below pivot n)) f) ∙ k))
    ]

module _ (code : Code) (survives : Place → Bool) (coef : ℕ → Place → ℕ) (pivot : ℕ → Option Place)
    (red : AreReduced code survives coef pivot) where
  -- two rows have different pivots
  not_again : (i j : ℕ) (p q : Place) → i < 4 → j < 4 → i ≢ j → pivot i ≡ Some p → pivot j ≡ Some q
      → same_place p q ≡ false
  not_again i j p q h k d e f = elim (cases_Bool (same_place p q)) [
    | inl t ↦ absurd (omega (
      arith,
      sym (red.one j q k f)
          ∙ ap (coef j) (sym (same_place-eq p q t)) ∙ red.alone i j p h k e (λ x. d (sym x)),
    ))
    | inr t ↦ t
  ]

  not_below : (i : ℕ) (p : Place) → i < 4 → pivot i ≡ Some p → (n : ℕ) → n ≤ i
      → member p (pivots_below pivot n) ≡ false
  not_below i p h e zero k = refl
  not_below i p h e (suc n) k = at (not_below i p h e n (omega (arith, k))) (pivot n) refl
    where
      at : member p (pivots_below pivot n) ≡ false → (o : Option Place) → pivot n ≡ o
          → member p (joined o (pivots_below pivot n)) ≡ false
      at before None f = before
      at before (Some q) f = neither (same_place p q) (member p (pivots_below pivot n))
          (not_again i n p q h (omega (arith, h, k)) (omega (arith, k)) e f) before

  pivots_apart : (n : ℕ) → n ≤ 4 → Apart (pivots_below pivot n)
  pivots_apart zero h = tt
  pivots_apart (suc n) h = at (pivots_apart n (omega (arith, h))) (pivot n) refl
    where
      at : Apart (pivots_below pivot n) → (o : Option Place) → pivot n ≡ o → Apart (joined o (pivots_below pivot n))
      at before None e = before
      at before (Some p) e = (not_below n p (omega (arith, h)) e n (omega arith), before)

  -- a solution that is 0 outside the pivots is 0
  only_zero : (bytes : Place → ℕ) → GivesBytes bytes
      → ((p : Place) → member p (pivots_below pivot 4) ≡ false → bytes p ≡ 0)
      → ((i : ℕ) → i < 4 → row_sum coef i bytes ≡ 0) → (q : Place) → bytes q ≡ 0
  only_zero bytes small outside each q = elim (cases_Bool (member q (pivots_below pivot 4))) [
    | inl m ↦ (let w = row_of_pivot pivot 4 q m in sym (single w.0 w.1 w.2) ∙ each w.0 w.1)
    | inr f ↦ outside q f
  ]
    where
      single : (i : ℕ) → i < 4 → pivot i ≡ Some q → row_sum coef i bytes ≡ bytes q
      single i h e =
          sum_over-same all_places (λ p. times (coef i p) (bytes p)) (λ p. cond (same_place q p) (bytes p) 0) term
          ∙ sum_over-single q bytes
        where
          there : (p : Place) → same_place q p ≡ true → times (coef i p) (bytes p) ≡ bytes p
          there p t = ap (λ c. times c (bytes p)) (ap (coef i) (sym (same_place-eq q p t)) ∙ red.one i q h e)
              ∙ times-one (bytes p) (small p)

          elsewhere : (p : Place) → same_place q p ≡ false → times (coef i p) (bytes p) ≡ 0
          elsewhere p t = elim (cases_Bool (member p (pivots_below pivot 4))) [
            | inl m ↦ (let w = row_of_pivot pivot 4 p m in
                ap (λ c. times c (bytes p)) (red.alone w.0 i p w.1 h w.2 (λ x. absurd (apart_bools
                (sym (same_place-refl q) ∙ same w.0 x w.2 t)))) ∙ times-zero (bytes p))
            | inr f ↦ ap (times (coef i p)) (outside p f) ∙ times-zero_r (coef i p)
          ]
            where
              some_same : Some q ≡ Some p → q ≡ p
              some_same x = cc

              same : (j : ℕ) → i ≡ j → pivot j ≡ Some p → same_place q p ≡ false → same_place q q ≡ false
              same j x f t = ap (same_place q) (some_same (sym e ∙ ap pivot x ∙ f)) ∙ t

          at : (p : Place) (b : Bool) → same_place q p ≡ b → times (coef i p) (bytes p) ≡ cond b (bytes p) 0
          at p true t = there p t
          at p false t = elsewhere p t

          term : (p : Place) → times (coef i p) (bytes p) ≡ cond (same_place q p) (bytes p) 0
          term p = at p (same_place q p) refl

-- no reduction has more pivots than another
no_more_pivots : (code : Code) (survives : Place → Bool) (coef other : ℕ → Place → ℕ) (pivot pivot' : ℕ → Option Place)
    → AreReduced code survives coef pivot → AreReduced code survives other pivot'
    → length (pivots_below pivot 4) < length (pivots_below pivot' 4) → ⊥
no_more_pivots code survives coef other pivot pivot' red red' h =
    d.nonzero (only_zero code survives other pivot' red' d.bytes d.small d.outside
    ((red'.same d.bytes d.small).0 ((red.same d.bytes d.small).1 d.each)) d.place)
  where
    free : (i : ℕ) (p : Place) → i < 4 → pivot i ≡ None → member p (pivots_below pivot' 4) ≡ true → coef i p ≡ 0
    free i p k e m = let w = row_of_pivot pivot' 4 p m in red.free i p k e (red'.lost w.0 p w.1 w.2)

    d : Dependence 4 coef (pivots_below pivot' 4)
    d = dependence 4 pivot coef (pivots_below pivot' 4) red.small free (pivots_apart code survives other pivot' red' 4 (omega arith)) h

pub same_rows_without_pivot : (code : CodeName) (survives : Place → Bool) (r t : Reduction)
    → IsReduction (tables_of code) (λ p. not (survives p)) r → IsReduction (tables_of code) (λ p. not (survives p)) t
    → rows_without_pivot (pivot_of r) 4 ≡ rows_without_pivot (pivot_of t) 4
same_rows_without_pivot code survives r t a b =
    let less = no_more_pivots (tables_of code) survives (coef_of r) (coef_of t) (pivot_of r) (pivot_of t)
    (reduced_rows code survives r a) (reduced_rows code survives t b) in
    let more = no_more_pivots (tables_of code) survives (coef_of t) (coef_of r) (pivot_of t) (pivot_of r)
    (reduced_rows code survives t b) (reduced_rows code survives r a) in
    counted (length (pivots_below (pivot_of r) 4)) (length (pivots_below (pivot_of t) 4)) _ _ less more
    (count_pivots (pivot_of r) 4) (count_pivots (pivot_of t) 4)
  where
    counted : (a b x y : ℕ) → (a < b → ⊥) → (b < a → ⊥) → a + x ≡ 4 → b + y ≡ 4 → x ≡ y
    counted a b x y n m e f = omega (arith, n, m, e, f)
