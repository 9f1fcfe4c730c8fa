use Rattle.std.proofs.Common.{◌≡◌, ◌∙◌, Some, ap, rules, subst, sym, true}
use Rattle.std.specs.Prelude.{slice_set}
use Rattle.std.specs.BTreeMap.{get_by_text}
use Rattle.stores.specs.declared.stripes.StripeFiles.{StripeFiles}
use Rattle.store_listing.specs.Names.{Begins, is_wanted}
use Rattle.store_listing.proofs.Texts.{noted, noted_where}
use Rattle.store_listing.proofs.stripe_names.StripeNames.note.Goals as goal

pub returns-in-Some-clause-noted : goal.returns-in-Some-clause-noted
returns-in-Some-clause-noted c =
    let stripe = c.args.stripe.now in
    let old = c.args.self.now.files in
    let between = c.begin.new.others in
    let files = c.in-Some.files.now in
    let changed : StripeFiles = record { found = slice_set files.found c.index.result c.args.found } in
    let new = c.get_mut.follows.lender changed in
    let is : is_wanted c.args.self.now.part stripe ≡ true
    = sym (c.is_wanted.ensures ∙ ap (λ s. is_wanted s.part stripe) c.note_name.ensures) ∙ c.if-not-is_wanted.false in
    let at : get_by_text between stripe ≡ Some files = sym c.in-Some.ensures.value in
    noted_where stripe old new c.args.place c.args.found (is_wanted c.args.self.now.part stripe) is
    (noted stripe old new c.args.place c.args.found between files changed
    (subst (λ m. Begins stripe m between) (ap (λ s. s.files) c.note_name.ensures) c.in_ok-begin.ensures) at
    (ap (λ i. record { found = slice_set files.found i c.args.found }) c.index.ensures.value)
    ((c.get_mut.follows.holds changed).3 (search rules)))
