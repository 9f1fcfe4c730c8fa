-- What is given to one place more.
use Rattle.std.proofs.Common.{◌≡◌, ◌∙◌, ℕ, List, false, sym, ap, inl, inr, Option, Some, None}
use Rattle.std.specs.Prelude.{◌⊎◌, if◌then◌else◌}
use Rattle.std.proofs.lemmas.Bool.{cases_Bool, cond-true, cond-false}
use Rattle.lrc_code.specs.declared.places.Place.{Place}
use Rattle.lrc_code.specs.Places.{same_place}
use Rattle.lrc_code.proofs.PlaceSums.{same_place-eq, same_place-refl}
use Rattle.stores.specs.Changed.{IsAmong}
use Rattle.stores.specs.Kept.{Given, given_at}

-- what is given, and this at a place
abbrev pub one_more : Given → Place → Option (List ℕ) → Given
one_more given place bytes p = if same_place place p then bytes else given p

module _ (given : Given) (place : Place) (bytes : Option (List ℕ)) where
  pub more_off : (p : Place) → same_place place p ≡ false → one_more given place bytes p ≡ given p
  more_off p off = cond-false (same_place place p) bytes (given p) off

  pub more_on : one_more given place bytes place ≡ bytes
  more_on = cond-true (same_place place place) bytes (given place) (same_place-refl place)

  pub more_are : (p : Place) → (one_more given place bytes p ≡ given p) ⊎ ((p ≡ place) × (one_more given place bytes p ≡ bytes))
  more_are p = elim (cases_Bool (same_place place p)) as
      (λ _. (one_more given place bytes p ≡ given p) ⊎ ((p ≡ place) × (one_more given place bytes p ≡ bytes))) [
        | inl on ↦ inr (sym (same_place-eq place p on), cond-true (same_place place p) bytes (given p) on)
        | inr off ↦ inl (more_off p off)
      ]

  -- what was given before is, if the place was given nothing
  pub more_among : given place ≡ None → IsAmong given (one_more given place bytes)
  more_among none p b is = elim (cases_Bool (same_place place p)) as (λ _. one_more given place bytes p ≡ Some b) [
    | inl on ↦ absurd (let both : None ≡ Some b = sym none ∙ ap given (same_place-eq place p on) ∙ is in cc)
    | inr off ↦ more_off p off ∙ is
  ]

  pub own_at : given_at place bytes place ≡ bytes
  own_at = cond-true (same_place place place) bytes None (same_place-refl place)

  pub at_among : IsAmong (given_at place bytes) (one_more given place bytes)
  at_among p b is = elim (cases_Bool (same_place place p)) as (λ _. one_more given place bytes p ≡ Some b) [
    | inl on ↦ cond-true (same_place place p) bytes (given p) on ∙ sym (cond-true (same_place place p) bytes None on) ∙ is
    | inr off ↦ absurd (let both : None ≡ Some b = sym (cond-false (same_place place p) bytes None off) ∙ is in cc)
  ]
