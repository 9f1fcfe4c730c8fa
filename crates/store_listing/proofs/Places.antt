-- Files at places, place after place.
use Rattle.std.proofs.Common.{◌≡◌, ◌∙◌, ◌<◌, ◌≤◌, ◌+◌, ℕ, suc, zero, List, [], ◌∷◌, ◌++◌, Bool, true, false, cond, refl, sym, ap, subst}
use Rattle.std.proofs.Common.{append_assoc, arith, filter, get_or, inl, inr, map, set, take}
use Rattle.std.specs.Prelude.{◌&&◌, not, ltb}
use Rattle.std.proofs.lemmas.Bool.{cases_eq, cases_lt, le-ltb, lt-ltb}
use Rattle.std.proofs.lemmas.List.{get_or-set_other, map-append}
use Rattle.lrc_code.specs.declared.codes.Code.{Code as CodeName}
use Rattle.lrc_code.specs.declared.places.Place.{Place}
use Rattle.lrc_code.specs.Code.{has_place}
use Rattle.lrc_code.specs.Codes.{tables_of}
use Rattle.lrc_code.specs.Places.{all_places, index_of}
use Rattle.lrc_code.proofs.PlaceSums.{index_of-eq, index_of-lt}
use Rattle.stores.specs.declared.stripes.Found.{Found as FoundName}
use Rattle.stores.specs.declared.stripes.Found.TheVariants.{Absent}
use Rattle.stores.proofs.ChosenLemmas.{chosen_next, other_next}
use Rattle.store_listing.specs.Stripes.{IsOwn, at_place}

-- what holds at each place before one and at that one
pub up_to_next : (P : Place → Type 0) (k : ℕ) (here : Place) → index_of here ≡ k → ((p : Place) → index_of p < k → P p) → P here
    → (p : Place) → index_of p < k + 1 → P p
up_to_next P k here is before at p below = elim (cases_lt (index_of p) k) as (λ _. P p) [
  | inl less ↦ before p less
  | inr le ↦ subst P (index_of-eq here p (omega (arith, is, le, below))) at
]

set_default : {X : Type 0} (xs : List X) (i : ℕ) (d : X) → get_or (set xs i d) i d ≡ d
set_default [] i d = refl
set_default (x ∷ xs) zero d = refl
set_default (x ∷ xs) (suc i) d = set_default xs i d

-- own has at the places before the n-th what files have at the code's places, and nothing at others, and from that on what files have
abbrev pub IsOwnBefore : ℕ → CodeName → List FoundName → List FoundName → Type 0
IsOwnBefore n code files own = (p : Place) → at_place own p
    ≡ cond (ltb (index_of p) n && not (has_place (tables_of code) p)) Absent (at_place files p)

below_next : (n k : ℕ) → (n ≡ k → ⊥) → ltb n k ≡ ltb n (k + 1)
below_next n k apart = elim (cases_lt n k) as (λ _. ltb n k ≡ ltb n (k + 1)) [
  | inl less ↦ lt-ltb n k less ∙ sym (lt-ltb n (k + 1) (omega (arith, less)))
  | inr le ↦ le-ltb n k le ∙ sym (le-ltb n (k + 1) (omega (arith, le, apart)))
]

module _ (code : CodeName) (files own : List FoundName) (k : ℕ) (here : Place) (is : index_of here ≡ k) where
  elsewhere : (p : Place) → (index_of p ≡ k → ⊥) → at_place own p
      ≡ cond (ltb (index_of p) k && not (has_place (tables_of code) p)) Absent (at_place files p)
      → at_place own p ≡ cond (ltb (index_of p) (k + 1) && not (has_place (tables_of code) p)) Absent (at_place files p)
  elsewhere p apart so = so ∙ ap (λ b. cond (b && not (has_place (tables_of code) p)) Absent (at_place files p))
      (below_next (index_of p) k apart)

  at_here : (p : Place) → index_of p ≡ k → here ≡ p
  at_here p so = index_of-eq here p (is ∙ sym so)

  within : (p : Place) → index_of p ≡ k → ltb (index_of p) (k + 1) ≡ true
  within p so = lt-ltb (index_of p) (k + 1) (omega (arith, so))

  -- a place of another code is cleared
  pub cleared_next : has_place (tables_of code) here ≡ false → IsOwnBefore k code files own
      → IsOwnBefore (k + 1) code files (set own k Absent)
  cleared_next other so = λ p. elim (cases_eq (index_of p) k) as (λ _. at_place (set own k Absent) p
      ≡ cond (ltb (index_of p) (k + 1) && not (has_place (tables_of code) p)) Absent (at_place files p)) [
        | inl same ↦ ap (λ i. get_or (set own k Absent) i Absent) same ∙ set_default own k Absent
            ∙ sym (rw (within p same, subst (λ q. has_place (tables_of code) q ≡ false) (at_here p same) other) refl)
        | inr apart ↦ get_or-set_other own k (index_of p) Absent Absent apart ∙ elsewhere p apart (so p)
      ]

  -- one of the code's is left
  pub left_next : has_place (tables_of code) here ≡ true → IsOwnBefore k code files own → IsOwnBefore (k + 1) code files own
  left_next its so = λ p. elim (cases_eq (index_of p) k) as (λ _. at_place own p
      ≡ cond (ltb (index_of p) (k + 1) && not (has_place (tables_of code) p)) Absent (at_place files p)) [
        | inl same ↦ so p ∙ rw (
          within p same,
          subst (λ q. has_place (tables_of code) q ≡ true) (at_here p same) its,
          le-ltb (index_of p) k (omega (arith, same)),
        ) refl
        | inr apart ↦ elsewhere p apart (so p)
      ]

-- at all places
past_all : (own : FoundName) (has : Bool) (files : FoundName) → own ≡ cond (true && not has) Absent files → own ≡ cond has files Absent
past_all own true files is = is
past_all own false files is = is

pub own_at_all : (code : CodeName) (files own : List FoundName) (n : ℕ) → 16 ≤ n → IsOwnBefore n code files own → IsOwn code files own
own_at_all code files own n past so = λ p. past_all (at_place own p) (has_place (tables_of code) p) (at_place files p) (so p
    ∙ ap (λ b. cond (b && not (has_place (tables_of code) p)) Absent (at_place files p))
    (lt-ltb (index_of p) n (let below = index_of-lt p in omega (arith, below, past))))

pub own_at_none : (code : CodeName) (files : List FoundName) → IsOwnBefore 0 code files files
own_at_none code files = λ p. sym (rw (le-ltb (index_of p) 0 (omega arith)) refl)

-- ---- what is alone

-- one more place is chosen, and what was named for those before it gets its name
module _ {A : Type 0} (chosen : Place → Bool) (f : Place → A) (start : List A) (k : ℕ) (p : Place) (lt : k < 16)
    (here : index_of p ≡ k) where
  pub named_next : (before after : List A) → chosen p ≡ true → after ≡ before ++ (f p ∷ [])
      → before ≡ start ++ map f (filter chosen (take k all_places)) → after ≡ start ++ map f (filter chosen (take (k + 1) all_places))
  named_next before after is pushed so =
      let places = filter chosen (take k all_places) in
      pushed ∙ ap (λ t. t ++ (f p ∷ [])) so ∙ append_assoc start (map f places) (f p ∷ [])
      ∙ ap (λ t. start ++ t) (sym (map-append f places (p ∷ [])) ∙ ap (map f) (chosen_next chosen k p lt here places is refl))

  pub unnamed_next : (before : List A) → chosen p ≡ false
      → before ≡ start ++ map f (filter chosen (take k all_places)) → before ≡ start ++ map f (filter chosen (take (k + 1) all_places))
  unnamed_next before isnt so = so ∙ ap (λ t. start ++ map f t)
      (other_next chosen k p lt here (filter chosen (take k all_places)) isnt refl)
