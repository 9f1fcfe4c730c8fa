use Rattle.std.proofs.Common.{◌≡◌, ◌∙◌, ◌++◌, ap, Bool, List, map, string_bytes, sym, ℕ}
use Rattle.lrc_code.specs.declared.codes.Code.{Code as CodeName}
use Rattle.lrc_code.specs.declared.places.Place.{Place}
use Rattle.stores.specs.declared.stripes.Found.{Found as FoundName}
use Rattle.store_listing.specs.Names.{at_places, named}
use Rattle.store_listing.specs.Stripes.{alone_places, is_stripe}
use Rattle.store_listing.proofs.Texts.{settled_one}
use Rattle.store_listing.proofs.store_stripes.StoreStripes.settle.Goals as goal

module _ (code : CodeName) (files : List FoundName) (before after : List (List ℕ × Place)) (a b : List ℕ) (x y : Bool) where
  said : after ≡ before ++ at_places a (alone_places x code files) → a ≡ b → x ≡ y
      → after ≡ before ++ at_places b (alone_places y code files)
  said is name same = is ∙ ap (λ t. before ++ at_places t (alone_places x code files)) name
      ∙ ap (λ s. before ++ at_places b (alone_places s code files)) same

pub returns-then-not-is_stripe-clause-alone : goal.returns-then-not-is_stripe-clause-alone
returns-then-not-is_stripe-clause-alone c = said c.args.code c.args.found.found (map named c.args.self.now.alone.items)
    (map named c.leave_alone.new.self.alone.items) c.as_str.result.now (string_bytes c.args.name) c.is_stripe-is_stripe.result
    (is_stripe c.args.is_expected c.args.code c.args.found.found) c.in_ok-leave_alone.ensures.alone c.as_str.ensures.value
    c.is_stripe-is_stripe.ensures

pub returns-clause-alone : goal.returns-clause-alone
returns-clause-alone c = said c.args.code c.args.found.found (map named c.args.self.now.alone.items)
    (map named c.leave_alone.new.self.alone.items) c.as_str.result.now (string_bytes c.args.name) c.is_stripe-is_stripe.result
    (is_stripe c.args.is_expected c.args.code c.args.found.found) c.in_ok-leave_alone.ensures.alone c.as_str.ensures.value
    c.is_stripe-is_stripe.ensures

pub returns-clause-files : goal.returns-clause-files
returns-clause-files c = settled_one (string_bytes c.args.name) c.args.self.now.files c.insert.new.self c.leave_alone.new.self.files
    c.own_of-own.result (is_stripe c.args.is_expected c.args.code c.args.found.found) c.args.code c.args.found.found
    (sym c.is_stripe-is_stripe.ensures ∙ c.if-not-is_stripe.false) c.in_ok-leave_alone.ensures.files c.in_ok-insert.ensures.updates
    c.own_of-own.ensures
