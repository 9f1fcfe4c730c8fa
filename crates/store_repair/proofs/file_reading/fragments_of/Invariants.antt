use Rattle.std.proofs.Common.{◌≡◌, ◌<◌, ℕ, List, Some, get_or, length}
use Rattle.stores.specs.Shown.{AreShown, shown_of}
use Rattle.store_repair.specs.Windows.{used_in}
use Rattle.store_repair.proofs.file_reading.fragments_of.Given as goal

abbrev pub invariant-loop-index : goal.invariant-loop-index
invariant-loop-index g l =
    record {
      many : length l.used.items ≡ l.index;
      shown : (at : List (List ℕ)) → AreShown g.F.Fragment.shown l.fragments at → (k : ℕ) (d : _) (e : List ℕ) → k < l.index
          → shown_of (λ f. g.F.Fragment.shown f.now) (get_or l.used.items k d) ≡ Some (get_or (used_in l.row at) k e);
    }
