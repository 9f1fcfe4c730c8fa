use Rattle.std.proofs.Common.{◌≡◌, ◌≢◌, ℕ, List, [], true}
use Rattle.stores.specs.Kept.{Given}
use Rattle.store_repair.specs.Findings.{is_unsettled, named}
use Rattle.store_repair.proofs.putting.settle_rest.Given as goal

abbrev pub invariant-faults : goal.invariant-faults
invariant-faults g l =
    record {
      same : g.S.Store.files l.store ≡ g.S.Store.files l.fn.store;
      named : named l.findings.items ≡ named l.fn.findings.items;
      some : l.fn.findings.items ≢ [] → l.findings.items ≢ [];
      kept : (stripe : List ℕ) (given : Given) (from : _) → g.S.Store.kept stripe given from l.fn.store
          → g.S.Store.kept stripe given from l.store;
      unsettled : is_unsettled l.fn.findings.items ≡ true → is_unsettled l.findings.items ≡ true;
    }
