use Rattle.std.proofs.Common.{ℕ, ◌<◌, List, get_or, map}
use Rattle.lrc_plan.specs.Stripes.{IsZeroRow}
use Rattle.store_repair.proofs.windows.are_zero.Given as goal

abbrev pub invariant-loop-row : goal.invariant-loop-row
invariant-loop-row l = (k : ℕ) (d : List ℕ) → k < l.row-index → IsZeroRow (get_or l.rows k d) (map (λ s. s.now) l.slices) l.size
