use Rattle.std.proofs.Common.{◌≡◌, sym, subst}
use Rattle.std.specs.Prelude.{Bool}
use Rattle.lrc_code.specs.declared.places.Place.{Place}
use Rattle.lrc_code.specs.Codes.{tables_of}
use Rattle.lrc_code.specs.Requests.{is_among}
use Rattle.lrc_code.specs.Sets.{is_in}
use Rattle.lrc_code.proofs.RequestLaws.{accepted_target}
use Rattle.lrc_plan.specs.Planned.{IsPlan, check_forms, value_form}
use Rattle.lrc_plan.proofs.plans.remembered.RememberedPlans.solve.Goals as goal

pub returns-in-Some : goal.returns-in-Some
returns-in-Some c =
    let r = c.args.request.now in
    let found = c.in-Some.plan.now in
    let plan : IsPlan (tables_of r.code) (is_in c.survivors-survivors.result) r.target (value_form found) (check_forms found) =
    rw (sym c.code-code.ensures, sym c.target-target.ensures) c.in-Some.ensures in
    let same : is_in c.survivors-survivors.result ≡ (λ p. is_among p r.survivors) = λ i p. c.survivors-survivors.ensures p i in
    c.answer_by.ensures.answer
    (subst (λ (s : Place → Bool). IsPlan (tables_of r.code) s r.target (value_form found) (check_forms found)) same plan)

pub plan_in-requires-clause-place : goal.plan_in-requires-clause-place
plan_in-requires-clause-place c = rw (c.code-code.ensures, c.target-target.ensures)
    (accepted_target c.args.request.now c.learn_invariant.ensures.accepted)

pub returns : goal.returns
returns c =
    let r = c.args.request.now in
    let made = c.in_ok-plan.plan in
    let plan : IsPlan (tables_of r.code) (is_in c.survivors-survivors.result) r.target (value_form made) (check_forms made) =
    rw (sym c.code-code.ensures, sym c.target-target.ensures) c.in_ok-plan.ensures.plan in
    let same : is_in c.survivors-survivors.result ≡ (λ p. is_among p r.survivors) = λ i p. c.survivors-survivors.ensures p i in
    c.in_ok-outcome.ensures.answer
    (subst (λ (s : Place → Bool). IsPlan (tables_of r.code) s r.target (value_form made) (check_forms made)) same plan)
