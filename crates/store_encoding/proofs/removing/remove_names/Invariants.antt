use Rattle.std.proofs.Common.{◌≡◌, ℕ, List}
use Rattle.store_encoding.specs.Digests.{KeepsDigests}
use Rattle.store_encoding.specs.Names.{IsNamed}
use Rattle.store_encoding.specs.Taken.{IsOneOf}
use Rattle.store_encoding.proofs.removing.remove_names.Given as goal

abbrev pub invariant-names : goal.invariant-names
invariant-names g l = record {
  folder : l.target.folder ≡ l.fn.target.folder;
  sums : KeepsDigests l.names l.fn.target.sums l.target.sums;
  named : (path : List ℕ) → IsOneOf l.paths.items path → IsNamed l.fn.target.folder.now l.names path;
}
