use Rattle.std.proofs.Common.{ℕ, ◌<◌}
use Rattle.lrc_plan.specs.Stripes.{IsUsedAt}
use Rattle.lrc_c.specs.Lent.{lent}
use Rattle.lrc_c.proofs.combining.are_used.Given as goal

abbrev pub invariant-loop-k : goal.invariant-loop-k
invariant-loop-k l = (j : ℕ) → j < l.k → IsUsedAt l.coefficients (lent l.at) l.len j
