use Rattle.std.proofs.Common.{◌<◌, ℕ, List, get_or}
use Rattle.lrc_plan.specs.Terms.{IsZeroRow}
use Rattle.lrc_plan.proofs.solving.terms.are_zero.Given as goal

abbrev pub invariant-loop-row : goal.invariant-loop-row
invariant-loop-row l = (k : ℕ) (d : List ℕ) → k < l.row-index → IsZeroRow l.request (get_or l.rows k d)
