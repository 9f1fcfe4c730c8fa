-- What calls on a stripe of a store leave that may replace fragments, whenever they end.
use Rattle.std.specs.Prelude.{◌≡◌, ◌⊎◌, ℕ, List, true, bytes_eq, Option, Some, None}
use Rattle.std.proofs.Common.{◌∙◌, inl, inr, refl, sym}
use Rattle.lrc_code.specs.declared.places.Place.{Place}
use Rattle.stores.specs.Kept.{Given, KeepsOrHas, nothing}
use Rattle.stores.specs.Store.{Files}

-- all that is given by the first is given by the second too
abbrev pub IsAmong : Given → Given → Type 0
IsAmong given more = (p : Place) (bytes : List ℕ) → given p ≡ Some bytes → more p ≡ Some bytes

-- Each name has what it had, or what it was given, and then what was there, if anything was, has its second name. A second name has what
-- it had, or, if nothing had it, what was there.
pub record ChangesOrHas (stripe : List ℕ) (given : Given) (old : Files) (new : Files) : Type 0 where
  pub names : (s : List ℕ) (p : Place) → (new.fragments s p ≡ old.fragments s p)
      ⊎ ((bytes_eq stripe s ≡ true) × ((bytes : List ℕ) × (given p ≡ Some bytes) × (new.fragments s p ≡ Some bytes)
      × ((old.fragments s p ≡ None) ⊎ (new.kept s p ≡ old.fragments s p))))
  pub seconds : (s : List ℕ) (p : Place) → (new.kept s p ≡ old.kept s p)
      ⊎ ((bytes_eq stripe s ≡ true) × (old.kept s p ≡ None) × ((bytes : List ℕ) × (given p ≡ Some bytes))
      × (new.kept s p ≡ old.fragments s p))

-- where nothing was called, each name has what it had
pub none_changed : (stripe : List ℕ) (files : Files) → ChangesOrHas stripe nothing files files
none_changed stripe files = record { names = λ s p. inl refl; seconds = λ s p. inl refl }

-- A place of a stripe may have been given these bytes, and what was given before that is.
pub record GivesOneMore {S : Type 0} (changed : List ℕ → Given → S → S → Type 0) (stripe : List ℕ) (given : Given) (place : Place)
    (bytes : Option (List ℕ)) (old : S) (new : S) : Type 0 where
  pub after : Given
  pub are : (p : Place) → (after p ≡ given p) ⊎ ((p ≡ place) × (after p ≡ bytes))
  pub changes : changed stripe after old new

-- an exchange, and then calls that replace nothing
module _ (s : List ℕ) (given more all : Given) (old mid new : Files) (leads : IsAmong given all) (widens : IsAmong more all)
    (changes : ChangesOrHas s given old mid) (keeps : KeepsOrHas s more mid new) where
  none_old : (t : List ℕ) (q : Place) → mid.fragments t q ≡ None → old.fragments t q ≡ None
  none_old t q none = elim (changes.names t q) as (λ _. old.fragments t q ≡ None) [
    | inl same ↦ sym same ∙ none
    | inr has ↦ absurd (let both : None ≡ Some has.1.0 = sym none ∙ has.1.2 in cc)
  ]

  kept_too : (t : List ℕ) (q : Place) → (old.fragments t q ≡ None) ⊎ (mid.kept t q ≡ old.fragments t q)
      → (old.fragments t q ≡ None) ⊎ (new.kept t q ≡ old.fragments t q)
  kept_too t q (inl none) = inl none
  kept_too t q (inr kept) = inr (keeps.seconds t q ∙ kept)

  abbrev IsNameOf : List ℕ → Place → Type 0
  IsNameOf t q = (new.fragments t q ≡ old.fragments t q)
      ⊎ ((bytes_eq s t ≡ true) × ((b : List ℕ) × (all q ≡ Some b) × (new.fragments t q ≡ Some b)
      × ((old.fragments t q ≡ None) ⊎ (new.kept t q ≡ old.fragments t q))))

  pub changed_kept : ChangesOrHas s all old new
  changed_kept = record {
    names = λ t q. elim (keeps.names t q) as (λ _. IsNameOf t q) [
      | inl same ↦ elim (changes.names t q) as (λ _. IsNameOf t q) [
        | inl had ↦ inl (same ∙ had)
        | inr has ↦ inr (has.0, (has.1.0, leads q has.1.0 has.1.1, same ∙ has.1.2, kept_too t q has.1.3))
      ]
      | inr got ↦ inr (got.0, (got.2.0, widens q got.2.0 got.2.1, got.2.2, inl (none_old t q got.1)))
    ];
    seconds = λ t q. elim (changes.seconds t q) as (λ _. (new.kept t q ≡ old.kept t q) ⊎ ((bytes_eq s t ≡ true)
        × (old.kept t q ≡ None) × ((b : List ℕ) × (all q ≡ Some b)) × (new.kept t q ≡ old.fragments t q))) [
          | inl same ↦ inl (keeps.seconds t q ∙ same)
          | inr got ↦ inr (got.0, got.1, (got.2.0, leads q got.2.0 got.2.1), keeps.seconds t q ∙ got.3)
        ];
  }
