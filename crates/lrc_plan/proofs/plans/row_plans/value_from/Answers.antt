use Rattle.std.proofs.Common.{refl, ◌∙◌}
use Rattle.lrc_code.specs.Codes.{tables_of}
use Rattle.lrc_code.specs.Sets.{is_in}
use Rattle.lrc_code.proofs.PlaceSums.{same_place-sym}
use Rattle.lrc_plan.specs.Rows.{coef_of, pivot_of}
use Rattle.lrc_plan.proofs.Extension.{free_differs, pivot_differs}
use Rattle.lrc_plan.proofs.ReductionRows.{reduced_rows}
use Rattle.lrc_plan.proofs.Values.{pivot_row}
use Rattle.lrc_plan.proofs.plans.row_plans.value_from.Goals as goal

pub returns-in-Some-clause-value : goal.returns-in-Some-clause-value
returns-in-Some-clause-value c = c.in-Some.ensures.0

pub returns-in-Some-clause-local : goal.returns-in-Some-clause-local
returns-in-Some-clause-local c = λ is. c.in-Some.ensures.1

pub returns-in_default-row_with_pivot-clause-value : goal.returns-in_default-row_with_pivot-clause-value
returns-in_default-row_with_pivot-clause-value c =
    free_differs (tables_of c.args.code) (is_in c.args.survivors) (coef_of c.args.reduced.now)
    (pivot_of c.args.reduced.now) (reduced_rows c.args.code
    (is_in c.args.survivors) c.args.reduced.now c.requires.reduced) c.args.target c.requires.lost c.in_default-row_with_pivot.ensures

pub returns-then-not-determines-clause-value : goal.returns-then-not-determines-clause-value
returns-then-not-determines-clause-value c =
    let n = c.if-not-determines.ensures.no refl in
    pivot_differs (tables_of c.args.code) (is_in c.args.survivors) (coef_of c.args.reduced.now)
    (pivot_of c.args.reduced.now) (reduced_rows c.args.code
    (is_in c.args.survivors) c.args.reduced.now c.requires.reduced) c.in-Some-row_with_pivot.pivot_row c.args.target n.0
    c.in-Some-row_with_pivot.ensures.0
    c.in-Some-row_with_pivot.ensures.1 n.1 (same_place-sym _ _ n.2) (λ z. n.3 (c.row_of-row.ensures n.0 ∙ z))

pub cut_row-requires-clause-row : goal.cut_row-requires-clause-row
cut_row-requires-clause-row c = pivot_row (tables_of c.args.code) (is_in c.args.survivors) (coef_of c.args.reduced.now)
    (pivot_of c.args.reduced.now) (reduced_rows c.args.code
    (is_in c.args.survivors) c.args.reduced.now c.requires.reduced) c.in-Some-row_with_pivot.pivot_row c.args.target c.row_of-row.result
    c.in-Some-row_with_pivot.ensures.0 c.in-Some-row_with_pivot.ensures.1 c.row_of-row.ensures c.if-not-determines.ensures.yes
