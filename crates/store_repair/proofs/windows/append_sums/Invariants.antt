use Rattle.std.proofs.Common.{◌≡◌, ℕ, ◌<◌, ◌≤◌, List, length, get_or, map}
use Rattle.store_repair.specs.Windows.{IsAppended}
use Rattle.store_repair.proofs.windows.append_sums.Given as goal

abbrev pub invariant-loop-index : goal.invariant-loop-index
invariant-loop-index g l =
    let shown = g.N.NewFragment.shown in
    record {
      done : (k : ℕ) (d : List ℕ) (e f : _) → k < l.index
          → IsAppended (map (λ s. s.now) l.slices) (length l.fn.sums) (get_or l.rows k d) (shown (get_or l.fn.files k e))
          (shown (get_or l.files k f));
      left : (k : ℕ) (d : _) → l.index ≤ k → get_or l.files k d ≡ get_or l.fn.files k d;
    }
