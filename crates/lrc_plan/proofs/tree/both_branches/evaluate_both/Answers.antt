use Rattle.std.proofs.lemmas.Result.{IfOk-weaker}
use Rattle.lrc_plan.specs.Tree.{form_of}
use Rattle.lrc_plan.proofs.FittingStripes.{byte_at-lt}
use Rattle.lrc_plan.proofs.ScaledValues.{scaled_once}
use Rattle.lrc_plan.proofs.tree.both_branches.evaluate_both.Goals as goal

pub returns : goal.returns
returns g c = IfOk-weaker c.evaluate_forked.result _ _
    (λ v. scaled_once _ c.args.request.now (form_of c.args.tree.now) v.items
    c.new.ensures (byte_at-lt c.args.request.now c.learn_invariant.ensures.accepted c.learn_invariant.ensures.bytes))
    c.evaluate_forked.ensures
