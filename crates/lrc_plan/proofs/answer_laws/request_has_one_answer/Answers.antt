use Rattle.lrc_field.proofs.Tests.{fails}
use Rattle.std.proofs.Common.{sym}
use Rattle.lrc_code.specs.Codes.{tables_of}
use Rattle.lrc_code.specs.Sets.{is_in}
use Rattle.lrc_code.proofs.RequestLaws.{accepted_target}
use Rattle.lrc_plan.specs.RowPlans.{IsRowPlan}
use Rattle.lrc_plan.proofs.AnswerLaws.{one_answer}
use Rattle.lrc_plan.proofs.answer_laws.request_has_one_answer.Goals as goal

pub plan_rows-plan-requires-clause-place : goal.plan_rows-plan-requires-clause-place
plan_rows-plan-requires-clause-place c = rw (c.code.ensures, c.target-target.ensures)
    (accepted_target c.args.request.now c.learn_invariant.ensures.accepted)

pub returns : goal.returns
returns c =
    let r = c.args.request.now in
    let plan = c.plan_rows-plan.result in
    let is : IsRowPlan (tables_of r.code) (is_in c.survivors-survivors.result) r.target plan.value plan.checks =
    rw (sym c.code.ensures, sym c.target-target.ensures) c.plan_rows-plan.ensures in
    one_answer r c.learn_invariant.ensures.accepted c.learn_invariant.ensures.bytes
    (is_in c.survivors-survivors.result) c.survivors-survivors.ensures plan.value plan.checks is
    c.are_zero-possible.result c.are_zero-possible.ensures.0 (fails c.are_zero-possible.ensures)
