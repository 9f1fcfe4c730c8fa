-- Damage that shows where not all survivors are read.
use Rattle.std.proofs.Common.{◌≡◌, ℕ, List, [], ◌++◌, Bool, true, sym, ap, subst, inl, inr, arith, length, Option, All, IfOk, IfSome}
use Rattle.std.specs.Prelude.{◌⊎◌, Contains, Result}
use Rattle.std.proofs.lemmas.List.Elements.{All-contains, All-weaker, Contains-append_left}
use Rattle.std.proofs.lemmas.Option.{IfSome_then}
use Rattle.std.proofs.lemmas.Result.{IfOk-weaker}
use Rattle.lrc_code.specs.declared.places.Place.{Place}
use Rattle.lrc_code.specs.declared.places.Place.TheVariants.{X0}
use Rattle.lrc_code.specs.declared.codes.Code.{Code as CodeName}
use Rattle.lrc_code.specs.Sets.{is_in}
use Rattle.store_repair.specs.Findings.{named}
use Rattle.store_repair.specs.Losses.{AreHeld, IsCovered}
use Rattle.store_repair.specs.Opened.{IsPutOf}
use Rattle.store_repair.specs.Repaired.{IsAccountedFor, IsShown, IsShownOrAll}
use Rattle.stores.specs.Store.{ShownFiles}
use Rattle.store_repair.specs.declared.making.Made.{Made}
use Rattle.store_repair.specs.declared.outcomes.Finding.{Finding}
use Rattle.store_repair.proofs.NamedLemmas.{named_append}

-- where all survivors were read, each place is accounted for
abbrev AreAccounted : {N : Type 0} → CodeName → List Finding → Made N → Type 0
AreAccounted code findings made = (p : Place) → IsAccountedFor code (is_in made.set) made.places.items findings p

abbrev AreShown : {N : Type 0} → (Place → Type 0) → CodeName → List Finding → Made N → Type 0
AreShown listed code findings made = IsShownOrAll listed code (is_in made.set) made.places.items findings

pub all_accounted : {N E : Type 0} (listed : Place → Type 0) (code : CodeName) (findings : List Finding) (r : Result (Option (Made N)) E)
    → IfOk r (λ o. IfSome o (AreAccounted code findings)) → IfOk r (λ o. IfSome o (AreShown listed code findings))
all_accounted listed code findings r all =
    IfOk-weaker r (λ o. IfSome o (AreAccounted code findings)) (λ o. IfSome o (AreShown listed code findings))
    (λ o some. IfSome_then o {P = AreAccounted code findings} {Q = AreShown listed code findings} some (λ made so. inr so)) all

all_none : (P : Place → Type 0) (places : List Place) → places ≡ [] → All P places
all_none P places none k d lt = absurd (let long = ap length none in omega (arith, lt, long))

-- what was held to digests, or covered, is shown
pub shown_of_held : (listed : Place → Type 0) (code : CodeName) (survives set : Place → Bool) (places : List Place)
    → ((p : Place) → set p ≡ true → listed p) → AreHeld code survives set places → IsShown listed code survives places
shown_of_held listed code survives set places so (inl all) = inl (All-weaker (λ p. set p ≡ true) listed so places all)
shown_of_held listed code survives set places so (inr covered) = inr covered

module _ (listed : Place → Type 0) (code : CodeName) (survives : Place → Bool) where
  -- of nothing that was rebuilt there is nothing to show
  pub none_shown : (rebuilt : List Place) (findings : List Finding) → rebuilt ≡ []
      → IsShownOrAll listed code survives rebuilt findings
  none_shown rebuilt findings none = inl (inl (all_none listed rebuilt none))

  module _ {N : Type 0} (shown : N → Option (List ℕ)) (stripe : List ℕ) (places : List Place) (made : List N) (new : ShownFiles)
      (rebuilt : List Place) (first later : List Finding) (long : length made ≡ length places)
      (put : All (IsPutOf shown places made stripe new) rebuilt)
      (all : All (λ p. Contains rebuilt p ⊎ Contains (named first ++ named later) p) places) where
    -- what holds of all that was made holds of what got its name
    of_made : (P : Place → Type 0) → All P places → All P rebuilt
    of_made P so i d lt =
        let at = put i d lt in
        subst P (at.2 X0) (so at.0 X0 (let less = at.1 in omega (arith, less, long)))

    accounted_later : (p : Place) → Contains places p ⊎ Contains (named first) p
        → Contains rebuilt p ⊎ Contains (named (first ++ later)) p
    accounted_later p (inl is) = subst (λ ps. Contains rebuilt p ⊎ Contains ps p) (sym (named_append first later))
        (All-contains (λ q. Contains rebuilt q ⊎ Contains (named first ++ named later) q) places p all is)
    accounted_later p (inr is) = inr (subst (λ ps. Contains ps p) (sym (named_append first later))
        (Contains-append_left (named first) (named later) p is))

    pub shown_later : IsShownOrAll listed code survives places first → IsShownOrAll listed code survives rebuilt (first ++ later)
    shown_later (inl (inl so)) = inl (inl (of_made listed so))
    shown_later (inl (inr covered)) = inl (inr (of_made (IsCovered code survives) covered.0, covered.1))
    shown_later (inr accounted) = inr (λ p has out. accounted_later p (accounted p has out))
