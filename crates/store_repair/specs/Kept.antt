-- What calls on a stripe of a store leave that replace nothing, whenever they end.
use Rattle.std.specs.Prelude.{◌≡◌, ℕ, List, [], ◌∷◌, All, Bool, true, if◌then◌else◌, Option, Some, None, IfSome}
use Rattle.lrc_code.specs.declared.places.Place.{Place}
use Rattle.lrc_code.specs.declared.codes.Code.{Code as CodeName}
use Rattle.lrc_code.specs.Places.{same_place}
use Rattle.store_repair.specs.Opened.{IsOnlyOne}
use Rattle.stores.specs.Store.{ShownFiles}
use Rattle.stores.specs.Kept.{Given, StaysOver}

-- those of files that were made for places
abbrev pub given_by : {N : Type 0} → (N → Option (List ℕ)) → List Place → List N → Given
given_by shown [] made p = None
given_by shown (place ∷ places) [] p = None
given_by shown (place ∷ places) (file ∷ made) p = if same_place place p then shown file else given_by shown places made p

-- where the files are shown, all that is given are bytes that are the only ones that fit fragments of the stripe that were there
abbrev pub FitOnly : CodeName → List ℕ → ShownFiles → Given → Type 0
FitOnly code stripe None given = Unit {0}
FitOnly code stripe (Some old) given =
    (p : Place) → IfSome (given p) (λ bytes. (survives : Place → Bool) × (len : ℕ) × ((q : Place) × (survives q ≡ true))
    × IsOnlyOne code survives len stripe old p bytes)

-- A stripe was given fragments that fit, at places at which nothing was, or none, and all else is kept as `kept` says. What was on the disk
-- is there.
pub record IsRepaired {S : Type 0} (kept : List ℕ → Given → S → S → Type 0) (settled : S → List ℕ → Place → Option (List ℕ) → Type 0)
    (code : CodeName) (stripe : List ℕ) (files : ShownFiles) (old : S) (new : S) : Type 0 where
  pub given : Given
  pub fit : FitOnly code stripe files given
  pub keeps : kept stripe given old new
  pub stays : StaysOver (settled old) (settled new)

-- The fragments at these places got their names, with bytes that fit, and are on the disk.
pub record AreDone {S : Type 0} (settled : S → List ℕ → Place → Option (List ℕ) → Type 0) (code : CodeName) (stripe : List ℕ)
    (files : ShownFiles) (new : S) (places : List Place) : Type 0 where
  pub given : Given
  pub fit : FitOnly code stripe files given
  pub done : All (λ place. settled new stripe place (given place)) places
