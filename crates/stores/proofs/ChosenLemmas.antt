-- The places that a loop over all of them has chosen.
use Rattle.std.proofs.Common.{◌≡◌, ◌∙◌, ◌<◌, ◌≤◌, ◌+◌, ℕ, suc, List, [], ◌∷◌, ◌++◌, Bool, true, false, refl, sym, ap, subst, arith}
use Rattle.std.proofs.Common.{append-nil, filter, get_or, inl, inr, take}
use Rattle.std.specs.Prelude.{◌&&◌, ◌||◌, ltb}
use Rattle.std.proofs.Math.Seq.{take-suc}
use Rattle.std.proofs.lemmas.Bool.{cases_lt, eq-eqb, le-ltb, lt-ltb, ne_eqb}
use Rattle.std.proofs.lemmas.List.Elements.{filter-append}
use Rattle.lrc_code.specs.declared.places.Place.{Place}
use Rattle.lrc_code.specs.declared.places.Place.TheVariants.{X0}
use Rattle.lrc_code.specs.Places.{all_places, index_of, same_place}
use Rattle.lrc_code.proofs.PlaceSums.{index_of-eq, place_at}

module _ (chosen : Place → Bool) (k : ℕ) (p : Place) (lt : k < 16) (here : index_of p ≡ k) where
  -- what was chosen up to the next place
  next : filter chosen (take (k + 1) all_places) ≡ filter chosen (take k all_places) ++ filter chosen (p ∷ [])
  next =
      let more : suc k ≡ k + 1 = omega arith in
      subst (λ n. filter chosen (take n all_places) ≡ filter chosen (take (suc k) all_places)) more refl
      ∙ ap (filter chosen) (take-suc all_places k X0 lt)
      ∙ filter-append chosen (take k all_places) (get_or all_places k X0 ∷ [])
      ∙ ap (λ q. filter chosen (take k all_places) ++ filter chosen (q ∷ [])) (ap (λ n. get_or all_places n X0) (sym here) ∙ place_at p)

  -- a place that is chosen is added
  pub chosen_next : (xs : List Place) → chosen p ≡ true → xs ≡ filter chosen (take k all_places)
      → xs ++ (p ∷ []) ≡ filter chosen (take (k + 1) all_places)
  chosen_next xs is so = sym (next ∙ rw (is, so) refl)

  -- one that isn't is not
  pub other_next : (xs : List Place) → chosen p ≡ false → xs ≡ filter chosen (take k all_places)
      → xs ≡ filter chosen (take (k + 1) all_places)
  other_next xs isnt so = sym (next ∙ rw (isnt, so) (append-nil (filter chosen (take k all_places))))

  apart : (q : Place) → (index_of q ≡ k → ⊥) → same_place p q ≡ false
  apart q ne = ne_eqb (index_of p) (index_of q) (λ e. ne (sym e ∙ here))

  it_is : (q : Place) → k ≤ index_of q → index_of q ≤ k → p ≡ q
  it_is q le ge = index_of-eq p q (omega (arith, here, le, ge))

  -- a set that has what was chosen up to a place has it up to the next one with this place, if that is chosen
  pub set_with : (old : Bool) (q : Place) → chosen p ≡ true → old ≡ (ltb (index_of q) k && chosen q)
      → (same_place p q || old) ≡ (ltb (index_of q) (k + 1) && chosen q)
  set_with old q is so = elim (cases_lt (index_of q) k) as (λ _. (same_place p q || old) ≡ (ltb (index_of q) (k + 1) && chosen q)) [
    | inl less ↦ rw (
      apart q (λ e. absurd (omega (arith, e, less))),
      lt-ltb (index_of q) (k + 1) (omega (arith, less)),
      so,
      lt-ltb (index_of q) k less,
    ) refl
    | inr le ↦ elim (cases_lt k (index_of q)) as (λ _. (same_place p q || old) ≡ (ltb (index_of q) (k + 1) && chosen q)) [
      | inl more ↦ rw (
        apart q (λ e. absurd (omega (arith, e, more))),
        le-ltb (index_of q) (k + 1) (omega (arith, more)),
        so,
        le-ltb (index_of q) k le,
      ) refl
      | inr ge ↦ rw (
        eq-eqb (index_of p) (index_of q) (omega (arith, here, le, ge)),
        lt-ltb (index_of q) (k + 1) (omega (arith, ge)),
        subst (λ r. chosen r ≡ true) (it_is q le ge) is,
      ) refl
    ]
  ]

  -- and without it, if it isn't
  pub set_without : (old : Bool) (q : Place) → chosen p ≡ false → old ≡ (ltb (index_of q) k && chosen q)
      → old ≡ (ltb (index_of q) (k + 1) && chosen q)
  set_without old q isnt so = elim (cases_lt (index_of q) k) as (λ _. old ≡ (ltb (index_of q) (k + 1) && chosen q)) [
    | inl less ↦ rw (lt-ltb (index_of q) (k + 1) (omega (arith, less)), so, lt-ltb (index_of q) k less) refl
    | inr le ↦ elim (cases_lt k (index_of q)) as (λ _. old ≡ (ltb (index_of q) (k + 1) && chosen q)) [
      | inl more ↦ rw (le-ltb (index_of q) (k + 1) (omega (arith, more)), so, le-ltb (index_of q) k le) refl
      | inr ge ↦ rw (
        lt-ltb (index_of q) (k + 1) (omega (arith, ge)),
        so,
        le-ltb (index_of q) k le,
        subst (λ r. chosen r ≡ false) (it_is q le ge) isnt,
      ) refl
    ]
  ]
