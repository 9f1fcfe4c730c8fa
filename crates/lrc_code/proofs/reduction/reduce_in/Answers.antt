use Rattle.lrc_code.specs.Codes.{tables_of}
use Rattle.lrc_code.specs.Reduction.{rows_by_index}
use Rattle.std.proofs.Common.{arith, ◌≡◌, sym, ap, ◌∙◌, subst, get_or, false, List, ℕ, None, [], ◌∷◌}
use Rattle.lrc_code.proofs.Reducing.{IsReducedTo, reduced_start, reduced_more, reduced_clear, reduced_rest, reduced_end}
use Rattle.lrc_code.proofs.reduction.reduce_in.Goals as goal
use Rattle.lrc_code.proofs.reduction.reduce_in.Goals.{then-has+in-Some, then-has+in_default, else-has}

pub loop-k-init : goal.loop-k-init
loop-k-init c = subst (λ (rows : List (List ℕ)). IsReducedTo (rows_by_index (tables_of c.args.code)) c.args.lost rows
    (None ∷ None ∷ None ∷ None ∷ []) 0) (sym c.equations.ensures) (reduced_start c.args.code c.args.lost)

pub loop-k-preserved : goal.loop-k-preserved
loop-k-preserved c =
    let k = c.loop-k.k in
    let lost_at : get_or c.args.lost k false ≡ c.has.result =
    ap (λ n. get_or c.args.lost n false) (sym c.place_at-place.ensures) ∙ sym c.has.ensures in
    elim c.if-has.branch [
      | then-has+in-Some w ↦ rw (w.rows-is, w.pivots-is) (reduced_clear
          (rows_by_index (tables_of c.args.code)) c.args.lost c.loop-k.rows w.clear_column-rows.result c.loop-k.pivots k w.in-Some.r
          c.place_at-place.result (omega (arith, c.loop-k-test.true, c.column_count-k-end.ensures.few)) c.place_at-place.ensures
          (lost_at ∙ w.if-has.true) c.loop-k.invariant w.in-Some.ensures w.clear_column-rows.ensures)
      | then-has+in_default w ↦ rw (w.rows-is, w.pivots-is)
          (reduced_more (rows_by_index (tables_of c.args.code)) c.args.lost c.loop-k.rows c.loop-k.pivots k
          (λ i hi none l. w.in_default.ensures i hi none) c.loop-k.invariant)
      | else-has w ↦ rw (w.rows-is, w.pivots-is) (reduced_more
          (rows_by_index (tables_of c.args.code)) c.args.lost c.loop-k.rows c.loop-k.pivots k
          (λ i hi none l. absurd (cc (sym l ∙ lost_at ∙ w.if-has.false))) c.loop-k.invariant)
    ]

pub returns : goal.returns
returns c =
    let e : c.loop-k.k ≡ c.column_count-k-end.result = omega arith in
    reduced_end c.args.code c.args.lost c.loop-k.rows c.loop-k.pivots
    (reduced_rest c.args.code c.args.lost c.loop-k.rows c.loop-k.pivots c.column_count-k-end.result c.column_count-k-end.ensures.few
    c.column_count-k-end.ensures.outside
    (subst (IsReducedTo (rows_by_index (tables_of c.args.code)) c.args.lost c.loop-k.rows c.loop-k.pivots) e c.loop-k.invariant))
