use Rattle.std.proofs.Common.{subst, string_bytes, true}
use Rattle.std.specs.BTreeSet.{UpdatesBy}
use Rattle.std.specs.Cmp.Lexicographic.{slice_cmp}
use Rattle.std.specs.Ordering.{nat_cmp}
use Rattle.std.specs.String.{string_cmp}
use Rattle.store_listing.proofs.Texts.{gained, put_where}
use Rattle.store_listing.proofs.stripe_names.put.Goals as goal

pub returns : goal.returns
returns c =
    let old = c.args.others.now in
    let new = c.insert.new.self in
    put_where c.args.stripe.now old new c.args.is_wanted c.if-not-is_wanted.false
    (gained c.args.stripe.now old new (subst (λ t. UpdatesBy string_cmp (λ k. slice_cmp nat_cmp t (string_bytes k)) old new true)
    c.in_ok-from_str.ensures.ok c.in_ok-insert.ensures.updates))
