-- How many checks there are.
use Rattle.std.proofs.Common.{◌≡◌, ◌≢◌, ◌<◌, ◌≤◌, ◌+◌, ℕ, Bool, true, false, cond, List, [], ◌∷◌, Option, Some, None}
use Rattle.std.proofs.Common.{is_none, slice_index, refl, sym, ◌∙◌, ap, ap₂, arith, inl, inr, lit<}
use Rattle.std.specs.Prelude.{not, ◌||◌, ◌==◌}
use Rattle.std.specs.List.{list_any, fold}
use Rattle.std.proofs.lemmas.Bool.{cases_Bool, eqb-true, eq-eqb}
use Rattle.lrc_code.specs.declared.places.Place.{Place}
use Rattle.lrc_code.specs.declared.places.Place.TheVariants.{X0, X1, X2, X3, X4, X5, Y0, Y1, Y2, Y3, Y4, Y5, Px, Py, P0, P1}
use Rattle.lrc_code.specs.declared.codes.Code.{Code as CodeName}
use Rattle.lrc_code.specs.Places.{index_of, same_place, all_places}
use Rattle.lrc_code.specs.Code.{Code}
use Rattle.lrc_code.specs.Codes.{tables_of}
use Rattle.lrc_code.specs.Reduction.{Reduction, IsReduction}
use Rattle.lrc_code.proofs.CodeTables.{four_equations}
use Rattle.lrc_code.proofs.PlaceSums.{same_place-eq}
use Rattle.lrc_plan.specs.Planned.{HasCheckCount, rows_without_pivot}
use Rattle.lrc_plan.specs.Rows.{AreReduced, pivot_of}
use Rattle.lrc_plan.specs.RowPlans.{IsCheckRow, rows_with_terms}
use Rattle.lrc_plan.specs.Sums.{terms}
use Rattle.lrc_plan.proofs.Ranks.{same_rows_without_pivot}

in_places : (p : Place) → list_any (same_place p) all_places ≡ true
in_places X0 = refl
in_places X1 = refl
in_places X2 = refl
in_places X3 = refl
in_places X4 = refl
in_places X5 = refl
in_places Y0 = refl
in_places Y1 = refl
in_places Y2 = refl
in_places Y3 = refl
in_places Y4 = refl
in_places Y5 = refl
in_places Px = refl
in_places Py = refl
in_places P0 = refl
in_places P1 = refl

-- ---- how many members of a list pass a test, from a number on

grows : (f : Place → Bool) (a : ℕ) (ps : List Place) → a ≤ fold (λ a p. a + cond (f p) 1 0) a ps
grows f a [] = omega arith
grows f a (p ∷ ps) = let more = grows f (a + cond (f p) 1 0) ps in omega (arith, more)

counted : (f : Place → Bool) (a : ℕ) (ps : List Place) (p : Place) → list_any (same_place p) ps ≡ true → f p ≡ true
    → a < fold (λ a q. a + cond (f q) 1 0) a ps
counted f a [] p h e = absurd (cc)
counted f a (q ∷ ps) p h e = elim (cases_Bool (same_place p q)) as (λ _. a < fold (λ a q. a + cond (f q) 1 0) a (q ∷ ps)) [
  | inl t ↦
      (let one : ◌≡◌ {A = ℕ} (cond (f q) 1 0) 1 = ap (λ b. cond b 1 0) (ap f (sym (same_place-eq p q t)) ∙ e) in
      let more = grows f (a + cond (f q) 1 0) ps in
      omega (arith, one, more))
  | inr n ↦
      (let more = counted f (a + cond (f q) 1 0) ps p (sym (ap (λ b. b || list_any (same_place p) ps) n) ∙ h) e in
      omega (arith, more))
]

none_counted : (f : Place → Bool) → ((p : Place) → f p ≡ false) → (a : ℕ) (ps : List Place) → fold (λ a p. a + cond (f p) 1 0) a ps ≡ a
none_counted f h a [] = refl
none_counted f h a (p ∷ ps) = ap (λ b. fold (λ a p. a + cond (f p) 1 0) (a + cond b 1 0) ps) (h p) ∙ none_counted f h (a + 0) ps ∙ same a
  where
    same : (a : ℕ) → a + 0 ≡ a
    same a = omega arith

-- ---- the rows of a reduction

not_zero : (n : ℕ) → n ≢ 0 → not (n == 0) ≡ true
not_zero n h = elim (cases_Bool (n == 0)) as (λ _. not (n == 0) ≡ true) [ inl t ↦ absurd (h (eqb-true n 0 t)) | inr f ↦ ap not f ]

is_zero : (n : ℕ) → n ≡ 0 → not (n == 0) ≡ false
is_zero n h = ap not (eq-eqb n 0 h)

module _ (code : Code) (survives : Place → Bool) (coef : ℕ → Place → ℕ) (pivot : ℕ → Option Place)
    (red : AreReduced code survives coef pivot) where
  -- a check has terms exactly where its row has no pivot
  has_terms : (r : ℕ) (row : List ℕ) → r < 4 → IsCheckRow coef pivot r row → (o : Option Place) → pivot r ≡ o
      → not (terms row all_places == 0) ≡ is_none (pivot r)
  has_terms r row lt check None e =
      let w = red.full r lt in
      let some = counted (λ p. not (slice_index row (index_of p) == 0)) 0 all_places w.0 (in_places w.0)
      (not_zero (slice_index row (index_of w.0)) (λ z. w.1 (sym (check.0 e w.0) ∙ z))) in
      not_zero (terms row all_places) (λ z. omega (arith, some, z)) ∙ sym (ap is_none e)
  has_terms r row lt check (Some v) e =
      is_zero (terms row all_places) (none_counted (λ p. not (slice_index row (index_of p) == 0))
      (λ p. is_zero _ (check.1 v e p)) 0 all_places)
      ∙ sym (ap is_none e)

  pub rows_counted : (a b c d : List ℕ) → IsCheckRow coef pivot 0 a → IsCheckRow coef pivot 1 b → IsCheckRow coef pivot 2 c
      → IsCheckRow coef pivot 3 d
      → rows_with_terms (a ∷ b ∷ c ∷ d ∷ []) ≡ rows_without_pivot pivot 4
  rows_counted a b c d ha hb hc hd =
      let one = has_terms 0 a (lit< tt) ha (pivot 0) refl in
      let two = has_terms 1 b (lit< tt) hb (pivot 1) refl in
      let three = has_terms 2 c (lit< tt) hc (pivot 2) refl in
      let four = has_terms 3 d (lit< tt) hd (pivot 3) refl in
      ap₂ (λ m n. m + cond n 1 0) (ap₂ (λ m n. m + cond n 1 0) (ap₂ (λ m n. m + cond n 1 0) (ap (λ n. 0 + cond n 1 0) one) two) three) four

-- as many as each reduction has rows without a pivot
pub check_count : (code : CodeName) (survives : Place → Bool) (r : Reduction) (n : ℕ)
    → IsReduction (tables_of code) (λ p. not (survives p)) r
    → n ≡ rows_without_pivot (pivot_of r) 4 → HasCheckCount (tables_of code) survives n
check_count code survives r n red is = record {
  each = λ q other. is ∙ same_rows_without_pivot code survives r q red other
      ∙ ap (rows_without_pivot (pivot_of q)) (sym (four_equations code));
  some = (r, red);
}
