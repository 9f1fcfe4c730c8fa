-- Stripes that a repair leaves whole.
use Rattle.std.proofs.Common.{◌≡◌, ◌∙◌, ℕ, List, [], ◌++◌, Bool, true, false, sym, ap, subst, inl, inr}
use Rattle.std.proofs.Common.{Option, Some, None, All}
use Rattle.std.specs.Prelude.{◌⊎◌, Contains, unwrap_or}
use Rattle.std.proofs.lemmas.Bool.{cases_Bool}
use Rattle.std.proofs.lemmas.List.Elements.{All-contains, Contains-append_left}
use Rattle.lrc_code.specs.declared.places.Place.{Place}
use Rattle.lrc_code.specs.declared.codes.Code.{Code as CodeName}
use Rattle.lrc_code.specs.Code.{IsInCode, has_place}
use Rattle.lrc_code.specs.Codes.{tables_of}
use Rattle.store_repair.specs.Findings.{AreAllMended, named, said_differing}
use Rattle.store_repair.specs.Losses.{IsCovered}
use Rattle.store_repair.specs.Mended.{AreLost}
use Rattle.store_repair.specs.Opened.{AreMade, AreRebuilt, IsRebuiltAt}
use Rattle.store_repair.specs.Repaired.{HasCause, IsAccountedFor, IsWhole, MayReplace, OnlyReplaces, SameBeside}
use Rattle.store_repair.specs.Scrubbed.{AreOfOneStripe, said_damaged}
use Rattle.stores.specs.Store.{Files, ShownFiles}
use Rattle.store_repair.specs.declared.outcomes.Finding.{Finding}
use Rattle.stores.specs.declared.stripes.Found.{Found as FoundName}
use Rattle.store_repair.proofs.NamedLemmas.{damaged_append, differing_append, mended_named, named_append}

-- ---- what is replaced

module _ (s : List ℕ) where
  pub replaces_same : (may : Place → Type 0) (a b : ShownFiles) → b ≡ a → OnlyReplaces may s a b
  replaces_same may a b e = subst (OnlyReplaces may s a) (sym e) (same a)
    where
      same : (x : ShownFiles) → OnlyReplaces may s x x
      same None = tt
      same (Some x) = λ p bytes h. inl h

  weaker_at : (may more : Place → Type 0) (b : Files) (p : Place) (bytes : List ℕ) → (may p → more p)
      → (b.fragments s p ≡ Some bytes) ⊎ may p → (b.fragments s p ≡ Some bytes) ⊎ more p
  weaker_at may more b p bytes implies (inl is) = inl is
  weaker_at may more b p bytes implies (inr so) = inr (implies so)

  pub replaces_weaker : (may more : Place → Type 0) (a b : ShownFiles) → ((p : Place) → may p → more p) → OnlyReplaces may s a b
      → OnlyReplaces more s a b
  replaces_weaker may more None None implies x = tt
  replaces_weaker may more None (Some b) implies x = absurd x
  replaces_weaker may more (Some a) None implies x = absurd x
  replaces_weaker may more (Some a) (Some b) implies x = λ p bytes h. weaker_at may more b p bytes (implies p) (x p bytes h)

module _ (r : Bool) (code : CodeName) (set : Place → Bool) (c : Bool) (len : ℕ) (files : List FoundName)
    (first later : List Finding) (p : Place) where
  differs_later : Contains (said_differing first) p → Contains (said_differing (first ++ later)) p
  differs_later is = subst (λ ps. Contains ps p) (sym (differing_append first later))
      (Contains-append_left (said_differing first) (said_differing later) p is)

  own_later : HasCause first files len p → HasCause (first ++ later) files len p
  own_later (inl is) = inl (subst (λ ps. Contains ps p) (sym (damaged_append first later))
      (Contains-append_left (said_damaged first) (said_damaged later) p is))
  own_later (inr is) = inr is

  cause_later : Contains (said_differing first) p ⊎ (IsCovered code set p × HasCause first files len p)
      → Contains (said_differing (first ++ later)) p ⊎ (IsCovered code set p × HasCause (first ++ later) files len p)
  cause_later (inl is) = inl (differs_later is)
  cause_later (inr (covered, own)) = inr (covered, own_later own)

  -- a cause that was noted before is one afterwards
  pub may_later : MayReplace r code set c len files first p → MayReplace r code set c len files (first ++ later) p
  may_later may = record {
    asked_for = may.asked_for;
    checked = may.checked;
    cause = cause_later may.cause;
  }

-- ---- what is whole

some_eq : (a b : List ℕ) → Some a ≡ Some b → a ≡ b
some_eq a b e = ap (λ o. unwrap_or o []) e

module _ (code : CodeName) (survives : Place → Bool) (len : ℕ) (s : List ℕ) (old new : Files) (places rebuilt : List Place)
    (first later : List Finding) (lost : AreLost code survives places) (st : Place → List ℕ) (in_code : IsInCode (tables_of code) len st)
    (there : (p : Place) → survives p ≡ true → old.fragments s p ≡ Some (st p))
    (beside : (p : Place) → ¬ Contains places p → new.fragments s p ≡ old.fragments s p)
    (are : All (IsRebuiltAt code survives len s old (Some new)) rebuilt) (mended : AreAllMended (first ++ later) rebuilt)
    (all : All (λ p. Contains rebuilt p ⊎ Contains (named first ++ named later) p) places)
    (accounted : (p : Place) → IsAccountedFor code survives places first p) where
  of_survivor : (p : Place) → survives p ≡ true → new.fragments s p ≡ Some (st p)
  of_survivor p on = beside p (λ own. absurd (
      let off = (All-contains (λ q. (has_place (tables_of code) q ≡ true) × (survives q ≡ false)) places p lost own).1 in cc)) ∙ there p on

  of_rebuilt : (p : Place) → Contains rebuilt p → new.fragments s p ≡ Some (st p)
  of_rebuilt p own =
      let at_p = All-contains (IsRebuiltAt code survives len s old (Some new)) rebuilt p are own in
      at_p.1 ∙ ap Some (sym (at_p.2.2.1 st (record {
        in_code = in_code;
        kept = λ q on. some_eq _ _ (sym (there q on) ∙ at_p.2.1 q on);
      })))

  of_named : (p : Place) → Contains (named first ++ named later) p → new.fragments s p ≡ Some (st p)
  of_named p is =
      of_rebuilt p (mended_named (first ++ later) rebuilt mended p (subst (λ ps. Contains ps p) (sym (named_append first later)) is))

  of_made : (p : Place) → Contains rebuilt p ⊎ Contains (named first ++ named later) p → new.fragments s p ≡ Some (st p)
  of_made p (inl own) = of_rebuilt p own
  of_made p (inr is) = of_named p is

  of_lost : (p : Place) → Contains places p ⊎ Contains (named first) p → new.fragments s p ≡ Some (st p)
  of_lost p (inl own) = of_made p (All-contains (λ q. Contains rebuilt q ⊎ Contains (named first ++ named later) q) places p all own)
  of_lost p (inr is) = of_named p (Contains-append_left (named first) (named later) p is)

  all_there : AreOfOneStripe code (has_place (tables_of code)) len s new
  all_there = (
    st,
    in_code,
    λ p has. elim (cases_Bool (survives p)) as (λ _. new.fragments s p ≡ Some (st p)) [
      | inl on ↦ of_survivor p on
      | inr off ↦ of_lost p (accounted p has off)
    ],
  )

pub is_whole : {N : Type 0} (shown : N → Option (List ℕ)) (code : CodeName) (survives : Place → Bool) (len : ℕ) (s : List ℕ)
    (places : List Place) (made : List N) (old new : ShownFiles) (first later : List Finding) (rebuilt : List Place)
    → AreMade shown code survives len s old places made → AreRebuilt code survives len s old new rebuilt → SameBeside places s old new
    → ((p : Place) → IsAccountedFor code survives places first p)
    → All (λ p. Contains rebuilt p ⊎ Contains (named first ++ named later) p) places → AreAllMended (first ++ later) rebuilt
    → IsWhole code len s new
is_whole shown code survives len s places made None None first later rebuilt are so beside accounted all mended = tt
is_whole shown code survives len s places made None (Some new) first later rebuilt are so beside accounted all mended = absurd beside
is_whole shown code survives len s places made (Some old) None first later rebuilt are so beside accounted all mended = tt
is_whole shown code survives len s places made (Some old) (Some new) first later rebuilt are so beside accounted all mended =
    let possible = are.possible in
    all_there code survives len s old new places rebuilt first later are.lost possible.0 possible.1 possible.2 beside so mended all
    accounted
