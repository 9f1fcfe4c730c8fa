-- What calls on a stripe of a store leave that replace nothing, whenever they end.
use Rattle.std.specs.Prelude.{◌≡◌, ◌⊎◌, ℕ, List, true, false, bytes_eq, if◌then◌else◌, Option, Some, None}
use Rattle.std.proofs.Common.{◌∙◌, inl, inr, refl, sym}
use Rattle.lrc_code.specs.declared.places.Place.{Place}
use Rattle.lrc_code.specs.Places.{same_place}
use Rattle.stores.specs.Store.{Files}

-- the bytes that are given to places of a stripe at which nothing is
abbrev pub Given : Type 0
Given = Place → Option (List ℕ)

-- none
abbrev pub nothing : Given
nothing p = None

-- what is given to one place
abbrev pub given_at : Place → Option (List ℕ) → Given
given_at place bytes p = if same_place place p then bytes else None

-- Each name has what it had, or, if nothing was there, what it was given. Each second name has what it had.
pub record KeepsOrHas (stripe : List ℕ) (given : Given) (old : Files) (new : Files) : Type 0 where
  pub names : (s : List ℕ) (p : Place) → (new.fragments s p ≡ old.fragments s p)
      ⊎ ((bytes_eq stripe s ≡ true) × (old.fragments s p ≡ None)
      × ((bytes : List ℕ) × (given p ≡ Some bytes) × (new.fragments s p ≡ Some bytes)))
  pub seconds : (s : List ℕ) (p : Place) → new.kept s p ≡ old.kept s p

-- where nothing is given, each name has what it had
pub unchanged : (stripe : List ℕ) (given : Given) (files : Files) → KeepsOrHas stripe given files files
unchanged stripe given files = record { names = λ s p. inl refl; seconds = λ s p. refl }

-- what was so of stripes' fragments and their bytes is so afterwards
abbrev pub StaysOver : (List ℕ → Place → Option (List ℕ) → Type 0) → (List ℕ → Place → Option (List ℕ) → Type 0) → Type 0
StaysOver old new = (stripe : List ℕ) (place : Place) (bytes : Option (List ℕ)) → old stripe place bytes → new stripe place bytes

-- what was so of a stripe's fragments at other places than this one is so afterwards
abbrev pub StaysBeside : List ℕ → Place → (List ℕ → Place → Option (List ℕ) → Type 0) → (List ℕ → Place → Option (List ℕ) → Type 0)
    → Type 0
StaysBeside stripe place old new =
    (other : Place) (bytes : Option (List ℕ)) → same_place place other ≡ false → old stripe other bytes → new stripe other bytes

-- a name has these bytes
abbrev pub HasBytes : Files → List ℕ → Place → Option (List ℕ) → Type 0
HasBytes files stripe place shown = (bytes : List ℕ) × (shown ≡ Some bytes) × (files.fragments stripe place ≡ Some bytes)

-- a name that has bytes has them where each name has what it had
pub still_has : (stripe : List ℕ) (given : Given) (old new : Files) → KeepsOrHas stripe given old new
    → StaysOver (HasBytes old) (HasBytes new)
still_has stripe given old new keeps s p shown has = elim (keeps.names s p) [
  | inl same ↦ (has.0, has.1, same ∙ has.2)
  | inr was ↦ absurd (let none : None ≡ Some has.0 = sym was.1 ∙ has.2 in cc)
]
