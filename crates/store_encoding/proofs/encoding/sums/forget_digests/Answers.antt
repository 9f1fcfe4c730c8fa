use Rattle.std.proofs.Common.{sym, None, string_bytes}
use Rattle.store_encoding.proofs.Digests.{changes_among, changes_one}
use Rattle.store_encoding.proofs.encoding.sums.forget_digests.Goals as goal

pub names-preserved : goal.names-preserved
names-preserved c = record {
  folder = c.names.invariant.folder;
  sums = changes_among c.args.names.now c.names.name-index _ c.names-test.true c.name-item.result (sym c.name-item.is)
      c.args.target.now.sums c.names.target.sums c.remove.new.self (changes_one (string_bytes c.name-item.result) c.as_str.result.now None
      c.names.target.sums c.remove.new.self c.as_str.ensures.value c.remove.ensures.others)
      c.names.invariant.sums;
}
