use Rattle.std.proofs.Common.{◌≡◌}
use Rattle.store_encoding.specs.Digests.{KeepsDigests}
use Rattle.store_encoding.proofs.encoding.sums.forget_digests.Given as goal

abbrev pub invariant-names : goal.invariant-names
invariant-names l = record {
  folder : l.target.folder ≡ l.fn.target.folder;
  sums : KeepsDigests l.names l.fn.target.sums l.target.sums;
}
