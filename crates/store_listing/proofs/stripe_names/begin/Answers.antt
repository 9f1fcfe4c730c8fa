use Rattle.std.proofs.Common.{◌∙◌, Some, string_bytes, subst, sym}
use Rattle.std.specs.BTreeMap.{UpdatesBy}
use Rattle.std.specs.Cmp.Lexicographic.{slice_cmp}
use Rattle.std.specs.Ordering.{nat_cmp}
use Rattle.std.specs.String.{string_cmp}
use Rattle.store_listing.specs.declared.store_stripes.TheConstants.{NO_FILES}
use Rattle.store_listing.proofs.Texts.{begun}
use Rattle.store_listing.proofs.stripe_names.begin.Goals as goal

pub returns : goal.returns
returns c =
    let old = c.args.others.now in
    let new = c.insert.new.self in
    begun c.args.stripe.now old new (sym c.contains_key.ensures ∙ c.if-contains_key.false)
    (subst (λ t. UpdatesBy string_cmp (λ k. slice_cmp nat_cmp t (string_bytes k)) old new (Some NO_FILES)) c.in_ok-from_str.ensures.ok
    c.in_ok-insert.ensures.updates)
