use Rattle.std.proofs.Common.{◌≡◌, sym, subst}
use Rattle.std.specs.Prelude.{Bool}
use Rattle.lrc_code.specs.declared.places.Place.{Place}
use Rattle.lrc_code.specs.Sets.{is_in}
use Rattle.lrc_code.specs.Codes.{tables_of}
use Rattle.lrc_code.specs.Requests.{is_among}
use Rattle.lrc_plan.specs.Planned.{IsPlan, check_forms, value_form}
use Rattle.lrc_plan.proofs.solving.solve.Goals as goal

pub returns : goal.returns
returns g c =
    let r = c.args.request.now in
    let plan : IsPlan (tables_of r.code) (is_in c.survivors.result) r.target (value_form c.in_ok-plan.plan)
    (check_forms c.in_ok-plan.plan) =
    rw (sym c.code.ensures, sym c.target.ensures) c.in_ok-plan.ensures.plan in
    let same : is_in c.survivors.result ≡ (λ p. is_among p r.survivors) = λ i p. c.survivors.ensures p i in
    c.answer_by.ensures.answer
    (subst (λ (s : Place → Bool). IsPlan (tables_of r.code) s r.target (value_form c.in_ok-plan.plan) (check_forms c.in_ok-plan.plan))
    same plan)
