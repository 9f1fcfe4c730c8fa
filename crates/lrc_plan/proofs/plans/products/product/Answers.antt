use Rattle.lrc_plan.proofs.EvaluationSteps.{once}
use Rattle.lrc_plan.proofs.plans.products.product.Goals as goal

pub returns-then-byte-eq1-clause-value : goal.returns-then-byte-eq1-clause-value
returns-then-byte-eq1-clause-value g c = λ b h. once _ _ _ c.byte.ensures c.if-byte-eq1.true (h c.args.place)
