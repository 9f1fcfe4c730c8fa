use Rattle.lrc_code.specs.Codes.{tables_of}
use Rattle.lrc_code.specs.Sets.{is_in}
use Rattle.lrc_plan.specs.Rows.{coef_of, pivot_of}
use Rattle.lrc_plan.proofs.CheckCounts.{check_count, rows_counted}
use Rattle.lrc_plan.proofs.ReductionRows.{reduced_rows}
use Rattle.lrc_plan.proofs.RowPlanLaws.{are_check_rows}
use Rattle.lrc_plan.proofs.plans.row_plans.checks_from.Goals as goal

pub returns-clause-checks : goal.returns-clause-checks
returns-clause-checks c = are_check_rows (tables_of c.args.code) (is_in c.args.survivors) (coef_of c.args.reduced.now)
    (pivot_of c.args.reduced.now)
    (reduced_rows c.args.code (is_in c.args.survivors) c.args.reduced.now c.requires)
    c.check_row.result c.check_row-2.result c.check_row-3.result c.check_row-4.result
    c.check_row.ensures c.check_row-2.ensures c.check_row-3.ensures c.check_row-4.ensures

pub returns-clause-count : goal.returns-clause-count
returns-clause-count c = check_count c.args.code (is_in c.args.survivors) c.args.reduced.now _ c.requires
    (rows_counted (tables_of c.args.code) (is_in c.args.survivors) (coef_of c.args.reduced.now) (pivot_of c.args.reduced.now)
    (reduced_rows c.args.code (is_in c.args.survivors) c.args.reduced.now c.requires)
    c.check_row.result c.check_row-2.result c.check_row-3.result c.check_row-4.result
    c.check_row.ensures c.check_row-2.ensures c.check_row-3.ensures c.check_row-4.ensures)
