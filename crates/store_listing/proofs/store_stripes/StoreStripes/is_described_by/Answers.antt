use Rattle.std.proofs.Common.{◌≡◌, ◌∙◌, subst, sym, true}
use Rattle.std.specs.BTreeSet.{contains_text}
use Rattle.std.proofs.lemmas.Bool.{false≢true}
use Rattle.store_names.specs.Descriptions.{Describes}
use Rattle.store_listing.proofs.Saying.{one_last, one_stripe}
use Rattle.store_listing.proofs.store_stripes.StoreStripes.is_described_by.Goals as goal

pub returns-in-Some : goal.returns-in-Some
returns-in-Some c =
    let name = c.args.name.now in
    let last = c.last_of.result.now in
    let stripe = c.in-Some.stripe.now in (
      λ yes. record {
        last = last;
        stripe = stripe;
        is_last = c.last_of.ensures;
        says = c.in-Some.ensures;
        is_described = sym c.contains.ensures ∙ yes;
      },
      λ is.
          let says = subst (λ t. Describes t is.stripe) (one_last name is.last last is.is_last c.last_of.ensures) is.says in
          let same = one_stripe last is.stripe stripe says c.in-Some.ensures in
          c.contains.ensures ∙ subst (λ t. contains_text c.args.self.now.described t ≡ true) same is.is_described,
    )

pub returns-in-None : goal.returns-in-None
returns-in-None c =
    let name = c.args.name.now in
    let last = c.last_of.result.now in (
      λ yes. absurd (false≢true yes),
      λ is.
          let says = subst (λ t. Describes t is.stripe) (one_last name is.last last is.is_last c.last_of.ensures) is.says in
          absurd (c.in-None.ensures is.stripe says),
    )
