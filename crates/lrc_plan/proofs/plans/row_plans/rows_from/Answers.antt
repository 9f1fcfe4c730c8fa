use Rattle.lrc_code.specs.Codes.{tables_of}
use Rattle.lrc_code.specs.Sets.{is_in}
use Rattle.lrc_plan.proofs.RowPlanLaws.{value_either}
use Rattle.lrc_plan.proofs.plans.row_plans.rows_from.Goals as goal

pub returns : goal.returns
returns c = record {
  of_target = value_either (tables_of c.args.code) (is_in c.args.survivors) c.args.target c.value_from.result c.value_from.ensures.value;
  of_survivors = c.checks_from.ensures.checks;
  local = c.value_from.ensures.local;
  count = c.checks_from.ensures.count;
}
