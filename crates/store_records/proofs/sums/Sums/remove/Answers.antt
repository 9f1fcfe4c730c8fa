use Rattle.std.proofs.Common.{None, subst}
use Rattle.std.specs.BTreeMap.{UpdatesBy}
use Rattle.std.specs.Cmp.Lexicographic.{slice_cmp}
use Rattle.std.specs.Ordering.{nat_cmp}
use Rattle.store_records.proofs.OneName.{changed, in_order}
use Rattle.store_records.proofs.sums.Sums.remove.Goals as goal

pub returns-clause-others : goal.returns-clause-others
returns-clause-others c = λ other.
    let old = c.args.self.now.digests in
    let new = c.remove.new.self in
    changed c.args.name.now other old new None
    (subst (λ l. UpdatesBy in_order (λ k. slice_cmp nat_cmp l k.items) old new None) c.as_bytes.ensures.value c.remove.ensures.updates)
