use Rattle.std.proofs.lemmas.Result.{IfOk-weaker}
use Rattle.std.proofs.Common.{◌≡◌, length, drop, ap₂, ◌∙◌, arith}
use Rattle.lrc_field.specs.Sums.{sums}
use Rattle.lrc_plan.specs.Tree.{form_of}
use Rattle.lrc_plan.specs.EvaluationParts.{IsScaledValue}
use Rattle.lrc_plan.proofs.EvaluationSteps.{written}
use Rattle.lrc_plan.proofs.ScaledValues.{scaled_further, scaled_sum}
use Rattle.lrc_plan.proofs.tree.both_branches.+evaluate_forked+fn-evaluate_forked-join+arg2+fn-evaluate_forked-join+arg3.Goals as goal

pub returns-in-Scale : goal.returns-in-Scale
returns-in-Scale g t c = rw c.in-Scale.is
    (IfOk-weaker c.evaluate_forked.result _ _ (λ v. scaled_further _ _ _ _ _ _ c.mul.ensures.value)
    (rw c.deref.ensures at c.evaluate_forked.ensures))

pub returns-in_ok-second-in-Sum : goal.returns-in_ok-second-in-Sum
returns-in_ok-second-in-Sum g t c =
    let first : IsScaledValue c.args.factor c.args.request.now
    (form_of c.in-Sum.left.value) c.in_ok-sum-in-Sum.sum.items = rw c.in_ok-sum-in-Sum.was at
    c.join-first.ensures.first in
    let second : IsScaledValue c.args.factor c.args.request.now
    (form_of c.in-Sum.right.value) c.in_ok-second-in-Sum.second.items = rw c.in_ok-second-in-Sum.was at
    c.join-first.ensures.second in
    let sum : c.add_into.new.dst ≡ sums c.in_ok-sum-in-Sum.sum.items c.in_ok-second-in-Sum.second.items =
    c.add_into.ensures ∙ ap₂ sums c.as_mut_slice.ensures.value c.as_slice.ensures.value in
    let n : length c.add_into.new.dst ≡ c.in_ok-sum-in-Sum.sum.len = omega arith in
    let e = written c.in_ok-sum-in-Sum.sum.len c.add_into.new.dst
    (drop (length c.add_into.new.dst) c.in_ok-sum-in-Sum.sum.items) n in
    rw (c.in-Sum.is, e) (scaled_sum c.args.factor c.args.request.now (form_of c.in-Sum.left.value)
    (form_of c.in-Sum.right.value) c.in_ok-sum-in-Sum.sum.items c.in_ok-second-in-Sum.second.items
    c.add_into.new.dst first second sum (omega (arith, first.len)))

pub join+arg2-returns : goal.join+arg2-returns
join+arg2-returns g t c = rw c.deref.ensures at c.evaluate_forked.ensures

pub join+arg3-returns : goal.join+arg3-returns
join+arg3-returns g t c = rw c.deref.ensures at c.evaluate_forked.ensures
