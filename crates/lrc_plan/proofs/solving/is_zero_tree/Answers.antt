use Rattle.std.proofs.Common.{◌≡◌, ◌∙◌, ℕ, sym}
use Rattle.lrc_plan.specs.Evaluation.{byte_at}
use Rattle.lrc_plan.specs.Form.{meaning}
use Rattle.lrc_plan.specs.Terms.{row_at}
use Rattle.lrc_plan.specs.Tree.{form_of}
use Rattle.lrc_plan.proofs.FittingStripes.{byte_at-lt}
use Rattle.lrc_plan.proofs.solving.is_zero_tree.Goals as goal

pub returns : goal.returns
returns g c =
    let r = c.args.request.now in
    let same : (i : ℕ) → row_at r c.coefficients-row.result i ≡ meaning (byte_at r i) (form_of c.args.tree.now) =
    λ i. c.coefficients-row.ensures (byte_at r i)
    (byte_at-lt r c.learn_invariant.ensures.accepted c.learn_invariant.ensures.bytes i) in
    (λ t i h. sym (same i) ∙ c.is_zero.ensures.0 t i h, λ zero. c.is_zero.ensures.1 (λ i h. same i ∙ zero i h))
