-- Where the equations can be solved for four lost places, no check is left.
use Rattle.std.proofs.Common.{◌≡◌, ◌<◌, ℕ, zero, suc, Bool, true, List, Option, Some, None, refl, sym, ◌∙◌, ap, subst, arith, lit<}
use Rattle.std.proofs.Common.{replicate}
use Rattle.std.specs.Prelude.{not, ◌&&◌, IfSome, MatchOption, slice_index, slice_index_or}
use Rattle.lrc_code.specs.declared.places.Group.{Group}
use Rattle.lrc_code.specs.declared.places.Group.TheVariants as group
use Rattle.lrc_code.specs.declared.places.Place.{Place}
use Rattle.lrc_code.specs.declared.places.Place.TheVariants.{X0, X1, X2, X3, X4, X5, Y0, Y1, Y2, Y3, Y4, Y5, Px, Py, P0, P1}
use Rattle.lrc_code.specs.declared.codes.Code.{Code as CodeName}
use Rattle.lrc_code.specs.Places.{index_of, group_of}
use Rattle.lrc_code.specs.Sets.{is_in}
use Rattle.lrc_code.specs.Code.{has_place}
use Rattle.lrc_code.specs.Codes.{tables_of}
use Rattle.lrc_code.specs.Reduction.{IsReduction, Reduction}
use Rattle.lrc_code.proofs.FourPivots.{four_rows, four_pivots, four_reduced, other_parity as parity_beside}
use Rattle.lrc_plan.specs.Rows.{coef_of, pivot_of}
use Rattle.lrc_plan.specs.PlanParts.{other_parity}
use Rattle.lrc_plan.specs.Planned.{HasCheckCount, IsLocal, rows_without_pivot}
use Rattle.lrc_plan.specs.RowPlans.{AreCheckRows, IsCheckRow, IsGroupRow, IsRowPlan, IsValueRow, rows_with_terms}
use Rattle.lrc_plan.proofs.ReductionRows.{reduction_of, reduced_rows}
use Rattle.lrc_plan.proofs.CheckCounts.{check_count}
use Rattle.lrc_plan.proofs.RowPlanLaws.{are_check_rows}

-- a row of 0 as a check of a row with a pivot
zero_row : (coef : ℕ → Place → ℕ) (pivot : ℕ → Option Place) (r : ℕ) (v : Place) (row : List ℕ) → pivot r ≡ Some v
    → ((p : Place) → slice_index row (index_of p) ≡ 0) → IsCheckRow coef pivot r row
zero_row coef pivot r v row is zeros = ((λ none. absurd (apart (sym none ∙ is))), (λ w e p. zeros p))
  where
    apart : None ≡ Some v → ⊥
    apart e = cc

-- each row has a pivot
pivot_at : (g : Group) (t : Place) (r : ℕ) → r < 4 → (v : Place) × (slice_index_or (four_pivots g t) r None ≡ Some v)
pivot_at group.X t zero h = (t, refl)
pivot_at group.X t (suc zero) h = (Py, refl)
pivot_at group.X t (suc (suc zero)) h = (P0, refl)
pivot_at group.X t (suc (suc (suc zero))) h = (P1, refl)
pivot_at group.X t (suc (suc (suc (suc r)))) h = absurd (omega arith)
pivot_at group.Y t zero h = (Px, refl)
pivot_at group.Y t (suc zero) h = (t, refl)
pivot_at group.Y t (suc (suc zero)) h = (P0, refl)
pivot_at group.Y t (suc (suc (suc zero))) h = (P1, refl)
pivot_at group.Y t (suc (suc (suc (suc r)))) h = absurd (omega arith)

same_parity : (g : Group) → other_parity g ≡ parity_beside g
same_parity group.X = refl
same_parity group.Y = refl

zeros_at : (p : Place) → slice_index (replicate 16 0) (index_of p) ≡ 0
zeros_at X0 = refl
zeros_at X1 = refl
zeros_at X2 = refl
zeros_at X3 = refl
zeros_at X4 = refl
zeros_at X5 = refl
zeros_at Y0 = refl
zeros_at Y1 = refl
zeros_at Y2 = refl
zeros_at Y3 = refl
zeros_at Y4 = refl
zeros_at Y5 = refl
zeros_at Px = refl
zeros_at Py = refl
zeros_at P0 = refl
zeros_at P1 = refl

-- as many rows as have no pivot: none
no_free_row : (g : Group) (t : Place) → 0 ≡ rows_without_pivot (λ r. slice_index_or (four_pivots g t) r None) 4
no_free_row group.X t = refl
no_free_row group.Y t = refl

module _ (code : CodeName) (survives : Place → Bool) (lost : List Bool) (g : Group) (t : Place)
    (others : (p : Place) → is_in lost p ≡ (has_place (tables_of code) p && not (survives p)))
    (here : has_place (tables_of code) t ≡ true) (of : group_of t ≡ Some g)
    (lt : is_in lost t ≡ true) (lo : is_in lost (other_parity g) ≡ true) (l0 : is_in lost P0 ≡ true) (l1 : is_in lost P1 ≡ true) where
  abbrev solved : Reduction
  solved = record { rows = four_rows code g t; pivots = four_pivots g t }

  is_solved : IsReduction (tables_of code) (λ p. not (survives p)) solved
  is_solved = reduction_of (tables_of code) survives (is_in lost) solved others
      (four_reduced code lost g t here of lt (ap (is_in lost) (sym (same_parity g)) ∙ lo) l0 l1)

  pub no_checks : (n : ℕ) → n ≡ 0 → AreCheckRows (tables_of code) survives (replicate 4 (replicate 16 n))
  no_checks n none =
      let red = reduced_rows code survives solved is_solved in
      let zeros : List ℕ = replicate 16 0 in
      let row = λ (i : ℕ) (h : i < 4). zero_row (coef_of solved) (pivot_of solved) i (pivot_at g t i h).0 zeros
      (pivot_at g t i h).1 zeros_at in
      subst (λ m. AreCheckRows (tables_of code) survives (replicate 4 (replicate 16 m))) (sym none)
      (are_check_rows (tables_of code) survives (coef_of solved) (pivot_of solved) red zeros zeros zeros zeros (row 0 (lit< tt))
      (row 1 (lit< tt)) (row 2 (lit< tt)) (row 3 (lit< tt)))

  pub no_check_count : HasCheckCount (tables_of code) survives (rows_with_terms (replicate 4 (replicate 16 0)))
  no_check_count = check_count code survives solved (rows_with_terms (replicate 4 (replicate 16 0))) is_solved (no_free_row g t)

  -- the plan of the group's row, if there is one
  pub repair_plan : (value : Option (List ℕ))
      → MatchOption value (¬ IsLocal (tables_of code) survives t)
      (λ row. IsValueRow (tables_of code) survives t row × IsGroupRow (tables_of code) t row)
      → IfSome value (λ row. IsRowPlan (tables_of code) survives t (Some row) (replicate 4 (replicate 16 0)))
  repair_plan None h = tt
  repair_plan (Some row) h = record { of_target = h.0; of_survivors = no_checks 0 refl; local = λ l. h.1; count = no_check_count }
