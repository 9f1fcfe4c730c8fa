use Rattle.std.proofs.Common.{◌≡◌, Bool, true, false, refl, ap, sym, ◌∙◌}
use Rattle.std.specs.Prelude.{not, ◌&&◌}
use Rattle.lrc_code.specs.declared.places.Place.TheVariants.{P0, P1}
use Rattle.lrc_code.specs.Code.{has_place}
use Rattle.lrc_code.specs.Codes.{tables_of}
use Rattle.lrc_code.specs.Sets.{is_in}
use Rattle.lrc_plan.specs.PlanParts.{other_parity}
use Rattle.lrc_plan.proofs.UncheckedRows.{repair_plan}
use Rattle.lrc_plan.proofs.plans.row_plans.row_in_group.Goals as goal

is_lost : (here survives : Bool) → here ≡ true → survives ≡ false → (here && not survives) ≡ true
is_lost true false h k = refl
is_lost true true h k = absurd (cc)
is_lost false s h k = absurd (cc)

pub returns : goal.returns
returns c =
    let other : is_in c.others-lost.result (other_parity c.in_ok-group.group) ≡ true =
    ap (is_in c.others-lost.result) (sym c.other_parity.ensures) ∙ sym c.has.ensures ∙ c.if-not-has.false in
    let p0 : is_in c.others-lost.result P0 ≡ true = sym c.has-else-not-has.ensures ∙ c.if-not-has-2.false in
    let p1 : is_in c.others-lost.result P1 ≡ true = sym c.has-else-not-has-2.ensures ∙ c.if-not-has-3.false in
    let target : is_in c.others-lost.result c.args.target ≡ true = c.others-lost.ensures c.args.target
    ∙ is_lost (has_place (tables_of c.args.code) c.args.target) (is_in c.args.survivors c.args.target) c.requires.place c.requires.lost in
    repair_plan c.args.code (is_in c.args.survivors) c.others-lost.result c.in_ok-group.group c.args.target c.others-lost.ensures
    c.requires.place
    (sym c.in_ok-group.ensures) target other p0 p1 c.local_row.result c.local_row.ensures
