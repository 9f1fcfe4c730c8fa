use Rattle.lrc_field.proofs.Tests.{fails}
use Rattle.std.proofs.Common.{◌∙◌, Some, None, All, ap, refl, sym, subst}
use Rattle.std.specs.Option.{option_map}
use Rattle.lrc_code.specs.declared.outcomes.Outcome.TheVariants.{Rebuilt}
use Rattle.lrc_code.specs.Answers.{IsAnswer}
use Rattle.lrc_code.specs.Codes.{tables_of}
use Rattle.lrc_code.specs.Requests.{is_among}
use Rattle.lrc_plan.specs.Evaluation.{byte_at}
use Rattle.lrc_plan.specs.EvaluationParts.{IsZeroTree}
use Rattle.lrc_plan.specs.Planned.{IsTargetValue, check_forms, value_form}
use Rattle.lrc_plan.specs.Said.{IsSaid}
use Rattle.lrc_plan.specs.Tree.{form_of}
use Rattle.lrc_plan.proofs.FittingStripes.{ZeroTrees, byte_at-lt, contradiction, forms_along, forms_at, rebuilt, several}
use Rattle.lrc_plan.proofs.FittingStripes.{trees_along, trees_at}
use Rattle.lrc_plan.proofs.solving.answer_by.Goals as goal

pub returns-then-not-possible-clause-said : goal.returns-then-not-possible-clause-said
returns-then-not-possible-clause-said g c = λ all.
    fails c.are_zero_trees-possible.ensures c.if-not-possible.true
    (rw c.as_slice.ensures.value (forms_along form_of c.args.request.now c.args.plan.now.checks.items all))

pub returns-in_ok-bytes-in-Some-clause-said : goal.returns-in_ok-bytes-in-Some-clause-said
returns-in_ok-bytes-in-Some-clause-said g c =
    let r = c.args.request.now in
    let zero : All (λ t. IsZeroTree c.args.request.now (form_of t)) c.args.plan.now.checks.items =
    rw (sym c.as_slice.ensures.value) (c.are_zero_trees-possible.ensures.0 c.if-not-possible.false) in
    let small = byte_at-lt r c.learn_invariant.ensures.accepted c.learn_invariant.ensures.bytes in
    let sums = c.in_ok-bytes-in-Some.ensures in
    subst (λ f. IsSaid r (value_form c.args.plan.now) (check_forms c.args.plan.now) (Rebuilt f)) (sym c.new.ensures) (
      forms_at form_of r c.args.plan.now.checks.items zero,
      form_of c.in-Some.tree,
      ap (option_map form_of) c.in-Some.is,
      record { len = sums.len; at = λ i h. sums.at i h ∙ c.coefficients-row.ensures (byte_at r i) (small i) },
    )

pub returns-in-None-clause-said : goal.returns-in-None-clause-said
returns-in-None-clause-said g c =
    let zero : All (λ t. IsZeroTree c.args.request.now (form_of t)) c.args.plan.now.checks.items =
    rw (sym c.as_slice.ensures.value) (c.are_zero_trees-possible.ensures.0 c.if-not-possible.false) in
    (forms_at form_of c.args.request.now c.args.plan.now.checks.items zero, ap (option_map form_of) c.in-None.is)

pub returns-then-not-possible-clause-answer : goal.returns-then-not-possible-clause-answer
returns-then-not-possible-clause-answer g c = λ plan.
    let r = c.args.request.now in
    let trees = c.args.plan.now.checks.items in
    contradiction r c.learn_invariant.ensures.accepted c.learn_invariant.ensures.bytes (λ p. is_among p r.survivors) (λ p. refl)
    (ZeroTrees (check_forms c.args.plan.now)) plan.of_survivors.possible
    (λ all. fails c.are_zero_trees-possible.ensures c.if-not-possible.true
    (rw c.as_slice.ensures.value (trees_along form_of r trees all)))

pub returns-in_ok-bytes-in-Some-clause-answer : goal.returns-in_ok-bytes-in-Some-clause-answer
returns-in_ok-bytes-in-Some-clause-answer g c = λ plan.
    let r = c.args.request.now in
    let trees = c.args.plan.now.checks.items in
    let zero : All (λ t. IsZeroTree c.args.request.now (form_of t)) c.args.plan.now.checks.items =
    rw (sym c.as_slice.ensures.value) (c.are_zero_trees-possible.ensures.0 c.if-not-possible.false) in
    let value : IsTargetValue (tables_of r.code) (λ p. is_among p r.survivors) r.target (Some (form_of c.in-Some.tree)) =
    subst (λ o. IsTargetValue (tables_of r.code) (λ p. is_among p r.survivors) r.target (option_map form_of o)) c.in-Some.is
    plan.of_target in
    subst (λ f. IsAnswer r (Rebuilt f)) (sym c.new.ensures)
    (rebuilt r c.learn_invariant.ensures.accepted c.learn_invariant.ensures.bytes (λ p. is_among p r.survivors) (λ p. refl)
    (ZeroTrees (check_forms c.args.plan.now)) plan.of_survivors.possible (trees_at form_of r trees zero) c.coefficients-row.result _
    (λ s e h x. c.coefficients-row.ensures s h ∙ value.right s e h x) c.in_ok-bytes-in-Some.ensures)

pub returns-in-None-clause-answer : goal.returns-in-None-clause-answer
returns-in-None-clause-answer g c = λ plan.
    let r = c.args.request.now in
    let trees = c.args.plan.now.checks.items in
    let zero : All (λ t. IsZeroTree c.args.request.now (form_of t)) c.args.plan.now.checks.items =
    rw (sym c.as_slice.ensures.value) (c.are_zero_trees-possible.ensures.0 c.if-not-possible.false) in
    let value : IsTargetValue (tables_of r.code) (λ p. is_among p r.survivors) r.target None =
    subst (λ o. IsTargetValue (tables_of r.code) (λ p. is_among p r.survivors) r.target (option_map form_of o)) c.in-None.is
    plan.of_target in
    several r c.learn_invariant.ensures.accepted c.learn_invariant.ensures.bytes (λ p. is_among p r.survivors) (λ p. refl)
    (ZeroTrees (check_forms c.args.plan.now)) plan.of_survivors.possible (trees_at form_of r trees zero) (value.several.0 refl)
