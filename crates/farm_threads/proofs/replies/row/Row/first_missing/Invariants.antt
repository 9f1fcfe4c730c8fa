use Rattle.std.proofs.Common.{ℕ, ◌<◌}
use Rattle.farm_threads.specs.Replies.{IsGap}
use Rattle.farm_threads.proofs.replies.row.Row.first_missing.Given as goal

abbrev pub invariant-loop-k : goal.invariant-loop-k
invariant-loop-k l = (j : ℕ) → j < l.k → IsGap l.self j → ⊥
