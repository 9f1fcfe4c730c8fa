-- Rows of a reduction as plans.
use Rattle.std.proofs.Common.{◌≡◌, ◌<◌, ℕ, suc, zero, Bool, true, false, cond, List, [], ◌∷◌, Option, Some, None, All, map, slice_index}
use Rattle.std.proofs.Common.{refl, sym, ◌∙◌, ap, arith, lit<}
use Rattle.std.specs.Prelude.{MatchOption}
use Rattle.std.proofs.lemmas.List.Elements.{All-from_recursion}
use Rattle.lrc_field.specs.Field.{times}
use Rattle.lrc_field.proofs.FieldLaws.{times-zero}
use Rattle.lrc_code.specs.declared.places.Place.{Place}
use Rattle.lrc_field.specs.Sums.{combination}
use Rattle.lrc_code.specs.Code.{Code}
use Rattle.lrc_code.specs.Places.{index_of, same_place, all_places}
use Rattle.lrc_code.proofs.PlaceSums.{sum_over-same, combination-sum_over}
use Rattle.lrc_plan.specs.Rows.{AreReduced, row_sum}
use Rattle.lrc_plan.specs.PlanParts.{IsTargetRow}
use Rattle.lrc_plan.specs.Planned.{ExtensionsDiffer}
use Rattle.lrc_plan.specs.RowPlans.{AreCheckRows, IsCheckRow, IsRowValue, IsValueRow, ReadsSurvivors}
use Rattle.lrc_plan.proofs.Extension.{determined, has_extension, zeros}

-- a row that determines the target, cut at it
pub cut_value : (code : Code) (survives : Place → Bool) (t : Place) (row cut : List ℕ)
    → IsTargetRow code survives t (λ p. slice_index row (index_of p))
    → ((p : Place) → slice_index cut (index_of p) ≡ cond (same_place t p) 0 (slice_index row (index_of p)))
    → IsValueRow code survives t cut
cut_value code survives t row cut target is = record {
  reads = λ p l. is p ∙ lost p (same_place t p) refl l;
  right = λ s e h x. combination-sum_over cut s ∙ sum_over-same all_places _ _ (λ p. ap (λ y. times y (s p)) (is p))
      ∙ determined code survives (λ p. slice_index row (index_of p)) t target.one target.clear s e (target.holds e x.bytes x.solves) x;
}
  where
    lost : (p : Place) (u : Bool) → same_place t p ≡ u → survives p ≡ false → cond u 0 (slice_index row (index_of p)) ≡ 0
    lost p true k l = refl
    lost p false k l = target.clear p l k

-- the two forms of a plan's value
pub value_either : (code : Code) (survives : Place → Bool) (t : Place) (value : Option (List ℕ))
    → MatchOption value (ExtensionsDiffer code survives t) (IsValueRow code survives t) → IsRowValue code survives t value
value_either code survives t None h = h
value_either code survives t (Some row) h = h

module _ (code : Code) (survives : Place → Bool) (coef : ℕ → Place → ℕ) (pivot : ℕ → Option Place)
    (red : AreReduced code survives coef pivot) where
  check_reads : (r : ℕ) (row : List ℕ) → r < 4 → IsCheckRow coef pivot r row → (o : Option Place) → pivot r ≡ o
      → ReadsSurvivors survives row
  check_reads r row lt h None e p l = h.0 e p ∙ red.free r p lt e l
  check_reads r row lt h (Some v) e p l = h.1 v e p

  check_sum : (r : ℕ) (row : List ℕ) → IsCheckRow coef pivot r row → pivot r ≡ None → (s : Place → ℕ)
      → combination row (map s all_places) ≡ row_sum coef r s
  check_sum r row h e s = combination-sum_over row s ∙ sum_over-same all_places _ _ (λ p. ap (λ y. times y (s p)) (h.0 e p))

  check_zero : (r : ℕ) (row : List ℕ) → IsCheckRow coef pivot r row → (s : Place → ℕ) → (o : Option Place) → pivot r ≡ o
      → (pivot r ≡ None → row_sum coef r s ≡ 0) → combination row (map s all_places) ≡ 0
  check_zero r row h s None e k = check_sum r row h e s ∙ k e
  check_zero r row h s (Some v) e k =
      combination-sum_over row s
      ∙ sum_over-same all_places _ (λ p. 0) (λ p. ap (λ y. times y (s p)) (h.1 v e p) ∙ times-zero (s p))
      ∙ zeros all_places

  pub are_check_rows : (a b c d : List ℕ) → IsCheckRow coef pivot 0 a → IsCheckRow coef pivot 1 b → IsCheckRow coef pivot 2 c
      → IsCheckRow coef pivot 3 d
      → AreCheckRows code survives (a ∷ b ∷ c ∷ d ∷ [])
  are_check_rows a b c d ha hb hc hd = record {
    reads = All-from_recursion (ReadsSurvivors survives) (a ∷ b ∷ c ∷ d ∷ []) (
      check_reads 0 a (lit< tt) ha (pivot 0) refl,
      (
        check_reads 1 b (lit< tt) hb
            (pivot 1) refl,
        (check_reads 2 c (lit< tt) hc (pivot 2) refl, (check_reads 3 d (lit< tt) hd (pivot 3) refl, tt)),
      ),
    );
    possible = λ s small.
        let has = has_extension code survives coef pivot red s small in (
          λ x. All-from_recursion (λ row. combination row (map s all_places) ≡ 0) (a ∷ b ∷ c ∷ d ∷ []) (
            check_zero 0 a ha s (pivot 0) refl (has.0 x 0 (lit< tt)),
            (
              check_zero 1 b hb s (pivot 1) refl
                  (has.0 x 1 (lit< tt)),
              (
                check_zero 2 c hc s (pivot 2) refl
                    (has.0 x 2 (lit< tt)),
                (check_zero 3 d hd s (pivot 3) refl (has.0 x 3 (lit< tt)), tt),
              ),
            ),
          ),
          λ all. has.1 (back s all),
        );
  }
    where
      back : (s : Place → ℕ) → All (λ row. combination row (map s all_places) ≡ 0) (a ∷ b ∷ c ∷ d ∷ [])
          → (r : ℕ) → r < 4 → pivot r ≡ None → row_sum coef r s ≡ 0
      back s all zero lt e = sym (check_sum 0 a ha e s) ∙ all 0 [] (lit< tt)
      back s all (suc zero) lt e = sym (check_sum 1 b hb e s) ∙ all 1 [] (lit< tt)
      back s all (suc (suc zero)) lt e = sym (check_sum 2 c hc e s) ∙ all 2 [] (lit< tt)
      back s all (suc (suc (suc zero))) lt e = sym (check_sum 3 d hd e s) ∙ all 3 [] (lit< tt)
      back s all (suc (suc (suc (suc r)))) lt e = absurd (omega arith)
