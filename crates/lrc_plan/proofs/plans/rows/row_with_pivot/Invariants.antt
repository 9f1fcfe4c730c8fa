use Rattle.std.proofs.Common.{◌≢◌, ◌<◌, ℕ, Some}
use Rattle.lrc_plan.specs.Rows.{pivot_of}
use Rattle.lrc_plan.proofs.plans.rows.row_with_pivot.Given as goal

abbrev pub invariant-loop-row : goal.invariant-loop-row
invariant-loop-row l = (r : ℕ) → r < l.row → pivot_of l.reduced r ≢ Some l.place
