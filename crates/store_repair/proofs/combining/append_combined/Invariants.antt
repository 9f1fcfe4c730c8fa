use Rattle.std.proofs.Common.{◌≡◌, ◌≤◌, ◌-◌, ℕ, List, length}
use Rattle.stores.specs.Shown.{AreShown}
use Rattle.store_repair.specs.Windows.{AreAppended}
use Rattle.store_repair.proofs.combining.append_combined.Given as goal

abbrev pub invariant-windows : goal.invariant-windows
invariant-windows g l =
    record {
      within : l.from ≤ l.many;
      rooms : length l.buffers.rooms.items ≡ length l.fragments;
      sums : length l.buffers.sums.items ≡ length l.initial.buffers.sums.items;
      files : length l.files ≡ length l.fn.files;
      written : (at : List (List ℕ)) → AreShown g.F.Fragment.shown l.fragments at
          → AreAppended g.N.NewFragment.shown at l.from l.rows l.fn.files l.files;
    }

abbrev pub decreases-windows : goal.decreases-windows
decreases-windows g l = l.many - l.from
