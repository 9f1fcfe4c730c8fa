use Rattle.std.proofs.Common.{◌≡◌, ◌∙◌, sym, ap, true, false, Some}
use Rattle.store_names.specs.Names.{is_stripe, name_with}
use Rattle.store_names.proofs.Distinct.{same_stripe}
use Rattle.store_names.proofs.patterns.Pattern.stripe_at.Goals as goal

pub returns-then-not-can_be_stripe : goal.returns-then-not-can_be_stripe
returns-then-not-can_be_stripe c = λ stripe made.
    let p = c.args.self.now in
    let keys : Some c.in_ok-key.key.now ≡ Some made.key = c.in_ok-key.ensures ∙ made.is_key in
    let key : made.key ≡ c.in_ok-key.key.now = cc keys in
    let same : stripe ≡ c.in_ok-stripe.stripe.now = same_stripe p stripe c.in_ok-stripe.stripe.now c.in_ok-key.key.now
    (ap (name_with p stripe) (sym key) ∙ sym made.is ∙ c.in_ok-stripe.ensures) in
    let no : true ≡ false = sym made.is_stripe ∙ ap is_stripe same ∙ ap is_stripe (sym c.as_bytes.ensures.value)
    ∙ sym c.can_be_stripe.ensures ∙ c.if-not-can_be_stripe.true in
    cc no
