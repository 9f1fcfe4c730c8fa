use Rattle.std.proofs.Common.{sym}
use Rattle.std.specs.Int.Bits.{xor_zero_r}
use Rattle.lrc_plan.proofs.plans.products.added.Goals as goal

pub returns-in-None-clause-value : goal.returns-in-None-clause-value
returns-in-None-clause-value g c = λ b. rw c.in-None.is (sym (xor_zero_r _))
