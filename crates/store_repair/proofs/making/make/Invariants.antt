use Rattle.std.proofs.Common.{◌≡◌, ◌≢◌, ◌<◌, [], length}
use Rattle.store_repair.specs.Opened.{AreOpened}
use Rattle.stores.specs.Kept.{Given}
use Rattle.store_repair.proofs.making.make.Given as goal

abbrev pub invariant-attempts : goal.invariant-attempts
invariant-attempts g l =
    record {
      same : g.S.Store.files l.store ≡ g.S.Store.files l.fn.store;
      kept : (given : Given) (from : _) → g.S.Store.kept l.fn.stripe.name.now given from l.fn.store
          → g.S.Store.kept l.fn.stripe.name.now given from l.store;
      said : 0 < l._attempt → l.findings.items ≢ [];
      sixteen : length l.left.fragments.items ≡ 16;
      long : l.left.length ≡ l.fn.opened.length;
      opened : AreOpened g.S.Survivor.Fragment.shown l.fn.repair.code l.fn.stripe.name.now l.left.length (g.S.Store.files l.store)
          l.left.set l.left.fragments.items;
    }
