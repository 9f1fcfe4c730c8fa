use Rattle.std.proofs.Common.{◌∙◌, ap, map, arith}
use Rattle.std.proofs.lemmas.Nat.{xor_lt}
use Rattle.lrc_field.specs.Field.{times}
use Rattle.lrc_field.specs.Sums.{sums}
use Rattle.lrc_field.proofs.FieldLaws.{times_lt}
use Rattle.lrc_plan.proofs.EvaluationSteps.{product_added, scaled_step, summed_step}
use Rattle.lrc_plan.proofs.tree.evaluation.+add_scaled.Goals as goal

pub returns-in-Some-clause-sum : goal.returns-in-Some-clause-sum
returns-in-Some-clause-sum g t c = λ i h.
    let all = c.requires.whole c.in-Leaf.place c.in-Some.ensures.0 in
    rw c.in-Leaf.is (product_added _ _ _ _ (omega (arith, all.0, c.requires.length))
    (c.scale_add_into.ensures ∙ ap (λ b. sums c.args.dst.now (map (times c.args.factor) b)) c.in-Some.ensures.1) i h)

pub returns-in-Scale-clause-sum : goal.returns-in-Scale-clause-sum
returns-in-Scale-clause-sum g t c = λ i h. rw c.in-Scale.is
    (c.add_scaled.ensures.sum i h ∙ rw c.deref.ensures (scaled_step _ _ _ _ _ c.mul.ensures.value))

pub returns-in-Sum-clause-sum : goal.returns-in-Sum-clause-sum
returns-in-Sum-clause-sum g t c = λ i h. rw c.in-Sum.is
    (c.add_scaled-in-Sum-2.ensures.sum i (omega arith) ∙ rw c.deref-in-Sum-2.ensures
    (summed_step _ _ _ _ _ (rw c.deref-in-Sum.ensures at (c.add_scaled-in-Sum.ensures.sum i h))))

pub returns-in-Some-clause-small : goal.returns-in-Some-clause-small
returns-in-Some-clause-small g t c = λ i h.
    let all = c.requires.whole c.in-Leaf.place c.in-Some.ensures.0 in
    rw c.in-Leaf.is (all.1 i 0 (omega (arith, all.0, c.requires.length, h)))

pub returns-in-Scale-clause-small : goal.returns-in-Scale-clause-small
returns-in-Scale-clause-small g t c = λ i h. rw c.in-Scale.is (times_lt _ _)

pub returns-in-Sum-clause-small : goal.returns-in-Sum-clause-small
returns-in-Sum-clause-small g t c = λ i h. rw c.in-Sum.is
    (xor_lt 8 _ _ (rw c.deref-in-Sum.ensures at (c.add_scaled-in-Sum.ensures.small i h))
    (rw c.deref-in-Sum-2.ensures at (c.add_scaled-in-Sum-2.ensures.small i (omega arith))))
