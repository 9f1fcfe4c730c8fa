use Rattle.lrc_code.specs.Sets.{is_in}
use Rattle.lrc_plan.proofs.RowTrees.{tree_plan}
use Rattle.lrc_plan.proofs.plans.planning.plan_in.Goals as goal

pub returns-clause-plan : goal.returns-clause-plan
returns-clause-plan g c = tree_plan c.args.code (is_in c.args.survivors) c.args.target
    c.plan_rows-rows.result.value c.plan_rows-rows.result.checks _ _ c.plan_rows-rows.ensures c.in_ok-value.ensures c.in_ok-checks.ensures
