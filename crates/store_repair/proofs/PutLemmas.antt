-- Names that are given one after the other.
use Rattle.std.proofs.Common.{◌≡◌, ◌∙◌, ◌<◌, ◌≤◌, ◌+◌, ℕ, List, ◌++◌, Bool, true, false, refl}
use Rattle.std.proofs.Common.{sym, ap, subst, arith, inl, inr, get_or, length}
use Rattle.std.proofs.Common.{Some, None}
use Rattle.std.specs.Prelude.{◌⊎◌, ◌&&◌, Contains}
use Rattle.std.proofs.lemmas.Bool.{cases_Bool, cases_lt}
use Rattle.std.proofs.lemmas.List.Elements.{Contains-append_cases, Contains-append_left, Contains-append_right}
use Rattle.lrc_code.specs.declared.places.Place.{Place}
use Rattle.lrc_code.specs.declared.codes.Code.{Code as CodeName}
use Rattle.lrc_code.specs.Places.{same_place}
use Rattle.lrc_code.proofs.PlaceSums.{same_place-eq}
use Rattle.store_repair.specs.Repaired.{MayReplace, OnlyReplaces, SameBeside}
use Rattle.stores.specs.Store.{AreUntouched, Files, SameElsewhere, ShownFiles}
use Rattle.store_repair.specs.declared.outcomes.Finding.{Finding}
use Rattle.stores.specs.declared.stripes.Found.{Found as FoundName}

-- what may be replaced was asked for and is checked
pub asked : (r : Bool) (code : CodeName) (set : Place → Bool) (c : Bool) (len : ℕ) (files : List FoundName) (findings : List Finding)
    (p : Place) → MayReplace r code set c len files findings p → (r && c) ≡ true
asked r code set c len files findings p may = rw (may.asked_for, may.checked) refl

module _ (may : Place → Type 0) (s : List ℕ) where
  first_then : (a b c : Files) → OnlyReplaces may s (Some b) (Some c) → (p : Place) (bytes : List ℕ)
      → (b.fragments s p ≡ Some bytes) ⊎ may p → (c.fragments s p ≡ Some bytes) ⊎ may p
  first_then a b c second p bytes (inl is) = second p bytes is
  first_then a b c second p bytes (inr so) = inr so

  pub replaces_trans : (a b c : ShownFiles) → OnlyReplaces may s a b → OnlyReplaces may s b c → OnlyReplaces may s a c
  replaces_trans None None None x y = tt
  replaces_trans None None (Some c) x y = absurd y
  replaces_trans None (Some b) c x y = absurd x
  replaces_trans (Some a) None c x y = absurd x
  replaces_trans (Some a) (Some b) None x y = absurd y
  replaces_trans (Some a) (Some b) (Some c) x y = λ p bytes h. first_then a b c y p bytes (x p bytes h)

  -- a call at one place
  pub replaces_at : (w : Bool) (p : Place) (a b : ShownFiles) → (w ≡ true → may p) → AreUntouched w s a b → SameElsewhere s p a b
      → OnlyReplaces may s a b
  replaces_at w p None None on x y = tt
  replaces_at w p None (Some b) on x y = absurd x
  replaces_at w p (Some a) None on x y = absurd x
  replaces_at w p (Some a) (Some b) on x y = λ q bytes h. elim (cases_Bool (same_place p q)) as
      (λ _. (b.fragments s q ≡ Some bytes) ⊎ may q) [
        | inl same ↦ elim (cases_Bool w) as (λ _. (b.fragments s q ≡ Some bytes) ⊎ may q) [
          | inl is ↦ inr (subst may (same_place-eq p q same) (on is))
          | inr off ↦ inl (x.stays off s q bytes h)
        ]
        | inr apart ↦ inl (y q apart ∙ h)
      ]

module _ (places : List Place) (s : List ℕ) where
  pub beside_trans : (a b c : ShownFiles) → SameBeside places s a b → SameBeside places s b c → SameBeside places s a c
  beside_trans None None None x y = tt
  beside_trans None None (Some c) x y = absurd y
  beside_trans None (Some b) c x y = absurd x
  beside_trans (Some a) None c x y = absurd x
  beside_trans (Some a) (Some b) None x y = absurd y
  beside_trans (Some a) (Some b) (Some c) x y = λ p out. y p out ∙ x p out

  pub beside_at : (p : Place) (a b : ShownFiles) → Contains places p → SameElsewhere s p a b → SameBeside places s a b
  beside_at p None None own y = tt
  beside_at p None (Some b) own y = absurd y
  beside_at p (Some a) None own y = absurd y
  beside_at p (Some a) (Some b) own y = λ q out. elim (cases_Bool (same_place p q)) as (λ _. b.fragments s q ≡ a.fragments s q) [
    | inl same ↦ absurd (out (subst (Contains places) (same_place-eq p q same) own))
    | inr apart ↦ y q apart
  ]

-- ---- each place has its fragment, or is named

module _ (before : List Place) where
  abbrev pub IsSaid : List Place → List Place → Place → Type 0
  IsSaid put later p = Contains put p ⊎ Contains (before ++ later) p

  pub said_later : (put old new : List Place) (p : Place) → ((q : Place) → Contains old q → Contains new q) → IsSaid put old p
      → IsSaid put new p
  said_later put old new p grows (inl is) = inl is
  said_later put old new p grows (inr is) = inr (elim (Contains-append_cases before old p is) as (λ _. Contains (before ++ new) p) [
    | inl first ↦ Contains-append_left before new p first
    | inr second ↦ Contains-append_right before new p (grows p second)
  ])

  pub said_put : (put more later : List Place) (p : Place) → ((q : Place) → Contains put q → Contains more q) → IsSaid put later p
      → IsSaid more later p
  said_put put more later p more_put (inl is) = inl (more_put p is)
  said_put put more later p more_put (inr is) = inr is

  -- what isn't put is named
  pub said_left : (silent : Bool) (put later : List Place) (p : Place) → (silent ≡ true → Contains before p)
      → (silent ≡ false → Contains later p) → IsSaid put later p
  said_left true put later p known left = inr (Contains-append_left before later p (known refl))
  said_left false put later p known left = inr (Contains-append_right before later p (left refl))

  pub said_more : (places : List Place) (n : ℕ) (p : Place) (put more old new : List Place) → ((d : Place) → get_or places n d ≡ p)
      → ((q : Place) → Contains put q → Contains more q) → ((q : Place) → Contains old q → Contains new q) → IsSaid more new p
      → ((k : ℕ) (d : Place) → n + 1 ≤ k → k < length places → IsSaid put old (get_or places k d))
      → (k : ℕ) (d : Place) → n ≤ k → k < length places → IsSaid more new (get_or places k d)
  said_more places n p put more old new here more_put grows this so k d le lt = elim (cases_lt n k) as
      (λ _. IsSaid more new (get_or places k d)) [
        | inl after ↦ said_put put more new (get_or places k d) more_put
            (said_later put old new (get_or places k d) grows (so k d (omega (arith, after)) lt))
        | inr ge ↦ (let at : k ≡ n = omega (arith, le, ge) in
            subst (IsSaid more new) (sym (ap (λ j. get_or places j d) at ∙ here d)) this)
      ]
