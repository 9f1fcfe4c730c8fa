use Rattle.std.proofs.Common.{◌≡◌, ◌≢◌, ℕ, List, [], vec_len}
use Rattle.stores.specs.Kept.{Given}
use Rattle.store_repair.proofs.making.discard_all.Given as goal

abbrev pub invariant-files : goal.invariant-files
invariant-files g l =
    record {
      same : g.S.Store.files l.store ≡ g.S.Store.files l.fn.store;
      some : l.fn.findings.items ≢ [] → l.findings.items ≢ [];
      kept : (stripe : List ℕ) (given : Given) (from : _) → g.S.Store.kept stripe given from l.fn.store
          → g.S.Store.kept stripe given from l.store;
    }

abbrev pub decreases-files : goal.decreases-files
decreases-files g l = vec_len l.left
