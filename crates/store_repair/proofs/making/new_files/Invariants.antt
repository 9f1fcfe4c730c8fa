use Rattle.std.proofs.Common.{◌≡◌, ◌≤◌, ◌-◌, length, vec_len}
use Rattle.store_repair.specs.Mended.{AreEmpty}
use Rattle.stores.specs.Kept.{Given}
use Rattle.store_repair.proofs.making.new_files.Given as goal

abbrev pub invariant-files : goal.invariant-files
invariant-files g l =
    record {
      same : g.S.Store.files l.store ≡ g.S.Store.files l.fn.store;
      kept : (given : Given) (from : _) → g.S.Store.kept l.fn.stripe.name.now given from l.fn.store
          → g.S.Store.kept l.fn.stripe.name.now given from l.store;
      few : vec_len l.files ≤ length l.places;
      empty : AreEmpty g.S.New.NewFragment.shown l.files.items;
    }

abbrev pub decreases-files : goal.decreases-files
decreases-files g l = length l.places - vec_len l.files
