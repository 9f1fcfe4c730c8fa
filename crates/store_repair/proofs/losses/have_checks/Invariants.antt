use Rattle.std.proofs.Common.{◌≡◌, ◌<◌, ℕ, List, get_or}
use Rattle.store_repair.proofs.losses.have_checks.Given as goal

abbrev pub invariant-loop-index : goal.invariant-loop-index
invariant-loop-index l = (r : ℕ) (d : List ℕ) → r < l.index → (k : ℕ) → k < 16 → get_or (get_or l.rows r d) k 0 ≡ 0
