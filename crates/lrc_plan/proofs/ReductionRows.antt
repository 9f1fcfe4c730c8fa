-- What a reduction of the equations says of its rows, as functions of the places.
use Rattle.std.proofs.Common.{◌≡◌, ◌↔◌, ℕ, ◌<◌, Bool, true, false, [], length, get_or, Option, Some, None, refl, sym, ◌∙◌, ap, subst, inl}
use Rattle.std.proofs.Common.{inr, lit<}
use Rattle.std.specs.Prelude.{not, ◌&&◌}
use Rattle.std.proofs.lemmas.Bool.{cases_lt, cases_Bool}
use Rattle.std.proofs.lemmas.List.{get_or_past}
use Rattle.lrc_field.specs.Field.{times}
use Rattle.lrc_field.proofs.FieldLaws.{times-zero}
use Rattle.lrc_code.specs.declared.places.Place.{Place}
use Rattle.lrc_code.specs.declared.codes.Code.{Code as CodeName}
use Rattle.lrc_code.specs.Places.{index_of}
use Rattle.lrc_code.specs.Code.{Code, Solves, has_place}
use Rattle.lrc_code.specs.Codes.{tables_of}
use Rattle.lrc_code.specs.Reduction.{Reduction, IsReduction, IsPivot, row_at, row_sum_over}
use Rattle.lrc_code.proofs.CodeTables.{four_equations, sum_over-code}
use Rattle.lrc_code.proofs.PlaceSums.{index_of-lt}
use Rattle.lrc_plan.specs.Rows.{AreReduced, row_sum, coef_of, pivot_of}

-- lost places outside the code don't count
pub reduction_of : (code : Code) (survives lost : Place → Bool) (r : Reduction)
    → ((p : Place) → lost p ≡ (has_place code p && not (survives p)))
    → IsReduction code lost r → IsReduction code (λ p. not (survives p)) r
reduction_of code survives lost r is red = record {
  as_many = red.as_many;
  rows = red.rows;
  same = red.same;
  outside = red.outside;
  full = red.full;
  pivots = λ i h. moved i h (get_or r.pivots i None) (red.pivots i h);
}
  where
    second : (a b : Bool) → (a && b) ≡ true → b ≡ true
    second true b h = h
    second false b h = absurd (cc)

    both : (a b : Bool) → a ≡ true → b ≡ true → (a && b) ≡ true
    both true b h k = k
    both false b h k = absurd (cc)

    moved : (i : ℕ) → i < length code.equations → (o : Option Place) → IsPivot lost r.rows i o → IsPivot (λ p. not (survives p)) r.rows i o
    moved i h None p = λ q l. elim (cases_Bool (has_place code q)) [
      | inl t ↦ p q (is q ∙ both (has_place code q) (not (survives q)) t l)
      | inr f ↦ red.outside i q h f
    ]
    moved i h (Some q) p = (second (has_place code q) (not (survives q)) (sym (is q) ∙ p.0), p.1, p.2)

module _ (code : CodeName) (survives : Place → Bool) (r : Reduction) (red : IsReduction (tables_of code) (λ p. not (survives p)) r) where
  four : length r.rows ≡ 4
  four = red.as_many ∙ four_equations code

  in_equations : (i : ℕ) → i < 4 → i < length (tables_of code).equations
  in_equations i h = subst (λ n. i < n) (sym (four_equations code)) h

  below_four : (i : ℕ) → i < length (tables_of code).equations → i < 4
  below_four i h = subst (λ n. i < n) (four_equations code) h

  sum_is : (i : ℕ) (b : Place → ℕ) → i < 4
      → row_sum_over r.rows i (tables_of code).places b ≡ row_sum (coef_of r) i b
  sum_is i b h = sum_over-code code (λ p. times (coef_of r i p) (b p))
      (λ p o. ap (λ c. times c (b p)) (red.outside i p (in_equations i h) o) ∙ times-zero (b p))

  same : (b : Place → ℕ)
      → Solves (tables_of code).equations (tables_of code).places b ↔ ((i : ℕ) → i < 4 → row_sum (coef_of r) i b ≡ 0)
  same b = (
    (λ s i h. sym (sum_is i b h) ∙ (red.same b).0 s i (in_equations i h)),
    (λ h. (red.same b).1 (λ i k. sum_is i b (below_four i k) ∙ h i (below_four i k))),
  )

  small : (i : ℕ) (p : Place) → coef_of r i p < 256
  small i p = elim (cases_lt i (length r.rows)) as (λ _. coef_of r i p < 256) [
    | inl lt ↦
        (let row = red.rows i [] lt in
        let at : index_of p < length (row_at r.rows i) = subst (λ n. index_of p < n) (sym row.0) (index_of-lt p) in
        row.1 (index_of p) 0 at)
    | inr past ↦ subst (λ row. get_or row (index_of p) 0 < 256) (sym (get_or_past r.rows i [] past)) (lit< tt)
  ]

  at_pivot : (i : ℕ) (o : Option Place) (v : Place) → o ≡ Some v → IsPivot (λ p. not (survives p)) r.rows i o
      → IsPivot (λ p. not (survives p)) r.rows i (Some v)
  at_pivot i o v e p = subst (IsPivot (λ p. not (survives p)) r.rows i) e p

  pivot_is : (i : ℕ) (v : Place) → i < 4 → pivot_of r i ≡ Some v
      → IsPivot (λ p. not (survives p)) r.rows i (Some v)
  pivot_is i v h e = at_pivot i (pivot_of r i) v e (red.pivots i (in_equations i h))

  not_true : (b : Bool) → not b ≡ true → b ≡ false
  not_true true h = absurd (cc)
  not_true false h = refl

  pub reduced_rows : AreReduced (tables_of code) survives (coef_of r) (pivot_of r)
  reduced_rows = record {
    same = λ b bytes. same b;
    small = small;
    lost = λ i v h e. not_true (survives v) (pivot_is i v h e).0;
    one = λ i v h e. (pivot_is i v h e).1;
    alone = λ i q v h k e ne. (pivot_is i v h e).2 q (subst (λ n. q < n) (sym four) k) ne;
    free = λ i p h e l. subst (IsPivot (λ p. not (survives p)) r.rows i) e
        (red.pivots i (in_equations i h)) p (ap not l);
    full = λ i h. red.full i (in_equations i h);
  }
