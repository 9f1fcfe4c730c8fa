use Rattle.std.proofs.Common.{◌≡◌, ◌≤◌, ◌-◌, ℕ, List, length}
use Rattle.stores.specs.Shown.{AreShown}
use Rattle.store_repair.specs.Windows.{AreWritten, AreZeroBefore}
use Rattle.store_repair.proofs.mending.mend.Given as goal

abbrev pub invariant-windows : goal.invariant-windows
invariant-windows g l =
    record {
      within : l.from ≤ l.length;
      rooms : length l.buffers.rooms.items ≡ length l.survivors.fragments.now;
      sums : length l.buffers.sums.items ≡ length l.initial.buffers.sums.items;
      zero : (at : List (List ℕ)) → AreShown g.F.Fragment.shown l.survivors.fragments.now at → AreZeroBefore l.plan.checks at l.from;
      written : (at : List (List ℕ)) → AreShown g.F.Fragment.shown l.survivors.fragments.now at
          → AreWritten g.N.NewFragment.shown at l.from l.plan.rows.items l.files;
    }

abbrev pub decreases-windows : goal.decreases-windows
decreases-windows g l = l.length - l.from
