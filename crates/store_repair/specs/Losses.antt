-- What is lost of a stripe, and what shows of the rest.
use Rattle.std.specs.Prelude.{◌≡◌, ◌⊎◌, ℕ, List, All, Bool, true, false, ◌<◌, ◌^◌, slice_index}
use Rattle.lrc_code.specs.declared.codes.Code.{Code as CodeName}
use Rattle.lrc_code.specs.Code.{has_place, IsInCode}
use Rattle.lrc_code.specs.Codes.{tables_of}
use Rattle.lrc_code.specs.Sums.{GivesBytes}
use Rattle.lrc_plan.specs.Planned.{Extends, ExtensionsDiffer}
use Rattle.lrc_code.specs.declared.places.Place.{Place}
use Rattle.store_repair.specs.Damage.{all_but, IsDetermined, without}

-- some bytes at the survivors' places are those of no stripe, so that damage may show
abbrev pub CanContradict : CodeName → (Place → Bool) → Type 0
CanContradict code survives = (s : Place → ℕ) × GivesBytes s × ((e : Place → ℕ) → ¬ Extends (tables_of code) survives s e)

-- any bytes at the survivors' places are those of a stripe, so that no damage shows
abbrev pub CannotContradict : CodeName → (Place → Bool) → Type 0
CannotContradict code survives = (s : Place → ℕ) → GivesBytes s → (e : Place → ℕ) × Extends (tables_of code) survives s e

-- some bytes are those of no stripe, and the survivors have bytes
abbrev pub AreChecked : CodeName → (Place → Bool) → ℕ → Type 0
AreChecked code survives len = (0 < len) × CanContradict code survives

-- a row has a coefficient that isn't 0
abbrev pub HasTerm : List ℕ → Type 0
HasTerm row = (k : ℕ) × (k < 16) × (0 < slice_index row k) × (slice_index row k < 2 ^ 8)

-- some fragment survives
abbrev pub HasAny : (Place → Bool) → Type 0
HasAny survives = (q : Place) × (survives q ≡ true)

-- a place of the code, among some, that doesn't survive
pub record IsLostAmong (code : CodeName) (survives among : Place → Bool) (p : Place) : Type 0 where
  pub of_code : has_place (tables_of code) p ≡ true
  pub lost : survives p ≡ false
  pub own : among p ≡ true

-- without any two of the survivors the others determine the fragment at a place
abbrev pub IsCovered : CodeName → (Place → Bool) → Place → Type 0
IsCovered code survives p = (e f : Place) → IsDetermined code (without code (without code survives e) f) p

-- the survivors cover the fragments at all of some places, and damage of them may show
abbrev pub AreCovered : CodeName → (Place → Bool) → List Place → Type 0
AreCovered code survives places = All (IsCovered code survives) places × CanContradict code survives

-- the fragments at all of some places are held to what is listed, or the survivors cover them
abbrev pub AreHeld : CodeName → (Place → Bool) → (Place → Bool) → List Place → Type 0
AreHeld code survives listed places = All (λ p. listed p ≡ true) places ⊎ AreCovered code survives places

-- without some two of them, stripes with the bytes of the others differ there
abbrev pub IsOpenToTwo : CodeName → (Place → Bool) → Place → Type 0
IsOpenToTwo code survives p =
    (e : Place) × (f : Place) × ExtensionsDiffer (tables_of code) (without code (without code survives e) f) p

-- two stripes of the code that have the same bytes at all survivors' places but two have the same bytes at a place
abbrev pub IsRightDespiteTwo : CodeName → (Place → Bool) → Place → Type 0
IsRightDespiteTwo code survives p =
    has_place (tables_of code) p ≡ true → (len : ℕ) (s t : Place → List ℕ) → IsInCode (tables_of code) len s
    → IsInCode (tables_of code) len t → (e f : Place)
    → ((q : Place) → all_but (all_but survives e) f q ≡ true → s q ≡ t q) → s p ≡ t p
