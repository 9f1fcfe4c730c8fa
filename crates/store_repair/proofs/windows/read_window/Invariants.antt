use Rattle.std.proofs.Common.{◌≡◌, ℕ, ◌<◌, List, length, get_or, take, drop}
use Rattle.stores.specs.Shown.{AreShown}
use Rattle.store_repair.proofs.windows.read_window.Given as goal

abbrev pub invariant-loop-index : goal.invariant-loop-index
invariant-loop-index g l = record {
  sizes : (k : ℕ) (d : _) → k < l.index → ¬ (length (get_or l.rooms k d).items ≡ 0) → length (get_or l.rooms k d).items ≡ l.size;
  read : (at : List (List ℕ)) → AreShown g.F.Fragment.shown l.fragments at
      → (k : ℕ) (d : _) (e : List ℕ) → k < l.index → (get_or l.rooms k d).items ≡ take l.size (drop l.from (get_or at k e));
}
