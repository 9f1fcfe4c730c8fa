use Rattle.std.proofs.Common.{◌∙◌, ap, subst, sym, ℕ, List, MatchOption, string_bytes}
use Rattle.std.specs.Prelude.{option_and_then}
use Rattle.store_names.specs.Names.{IsNameOf}
use Rattle.store_records.specs.Sums.{digest_in}
use Rattle.store_folder.proofs.Digests.{same_name}
use Rattle.store_folder.proofs.site.Site.sum_of.Goals as goal

pub returns-in_default : goal.returns-in_default
returns-in_default c = λ name is. ap (option_and_then (λ sums. digest_in sums.now name)) c.in_default.is

pub returns-in-Some-2 : goal.returns-in-Some-2
returns-in-Some-2 c = λ name is.
    let site = c.args.self.now in
    let Named : List ℕ → Type 0 = IsNameOf site.pattern site.code c.args.stripe.now c.args.place in
    let own = subst (λ o. MatchOption o ((n : List ℕ) → ¬ Named n) (λ n. Named (string_bytes n))) c.in-Some-2.is c.in_ok-name.ensures in
    let same = same_name site.pattern site.code c.args.stripe.now c.args.place name c.as_str.result.now is
    (subst Named (sym c.as_str.ensures.value) own) in
    ap (option_and_then (λ sums. digest_in sums.now name)) c.in-Some.is ∙ ap (digest_in c.in-Some.sums.now) same
    ∙ sym c.digest_of.ensures ∙ sym c.copied.ensures

pub returns-in-None : goal.returns-in-None
returns-in-None c = λ name is.
    let site = c.args.self.now in
    let Named : List ℕ → Type 0 = IsNameOf site.pattern site.code c.args.stripe.now c.args.place in
    let none = subst (λ o. MatchOption o ((n : List ℕ) → ¬ Named n) (λ n. Named (string_bytes n))) c.in-None.is c.in_ok-name.ensures in
    absurd (none name is)
