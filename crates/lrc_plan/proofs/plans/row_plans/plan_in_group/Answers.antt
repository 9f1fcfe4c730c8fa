use Rattle.std.proofs.Common.{ℕ, Some, replicate, subst, sym}
use Rattle.lrc_code.specs.Codes.{tables_of}
use Rattle.lrc_code.specs.Sets.{is_in}
use Rattle.lrc_plan.specs.RowPlans.{IsRowPlan}
use Rattle.lrc_plan.proofs.plans.row_plans.plan_in_group.Goals as goal

pub returns : goal.returns
returns c = subst (λ (n : ℕ). IsRowPlan (tables_of c.args.code) (is_in c.args.survivors) c.args.target (Some c.in_ok-row.row)
    (replicate 4 (replicate 16 n)))
    (sym c.new.ensures) c.in_ok-row.ensures
