use Rattle.std.proofs.Common.{refl, arith}
use Rattle.lrc_field.proofs.Tests.{fails}
use Rattle.lrc_c.specs.Lent.{lent}
use Rattle.lrc_plan.proofs.Stripes.{used_from}
use Rattle.lrc_c.proofs.Combinations.{used_at}
use Rattle.lrc_c.proofs.combining.are_used.Goals as goal

pub returns-then-not-is_used_at : goal.returns-then-not-is_used_at
returns-then-not-is_used_at c = (
  λ t. absurd (cc t),
  λ used. absurd (fails c.if-not-is_used_at.ensures refl (used_at c.args.coefficients.now (lent c.args.at.now) c.args.len c.loop-k.k used)),
)

pub returns : goal.returns
returns c = (
  λ t. used_from c.args.len c.args.coefficients.now (lent c.args.at.now) (λ k lt. c.loop-k.invariant k (omega arith)),
  λ used. refl,
)
