use Rattle.std.proofs.Common.{Some, ◌∙◌, subst}
use Rattle.std.specs.BTreeMap.{UpdatesBy}
use Rattle.std.specs.Cmp.Lexicographic.{slice_cmp}
use Rattle.std.specs.Ordering.{nat_cmp}
use Rattle.store_records.proofs.OneName.{changed, in_order}
use Rattle.store_records.proofs.sums.Sums.set.Goals as goal

pub returns : goal.returns
returns c = λ other.
    let old = c.args.self.now.digests in
    let new = c.insert.new.self in
    changed c.args.name.now other old new (Some c.args.digest)
    (subst (λ l. UpdatesBy in_order (λ k. slice_cmp nat_cmp l k.items) old new (Some c.args.digest))
    (c.in_ok-from_slice.ensures.items ∙ c.as_bytes.ensures.value) c.in_ok-insert.ensures.updates)
