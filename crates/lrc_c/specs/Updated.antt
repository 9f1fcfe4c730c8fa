-- Parities after a data fragment changed.
use Rattle.std.specs.Prelude.{◌≡◌, ◌≢◌, ◌<◌, ◌^◌, ◌⊎◌, ℕ, List, [], ◌∷◌, Bool, true, false, length, Some}
use Rattle.std.specs.List.{list_any}
use Rattle.std.specs.Int.Bits.{bit_xor}
use Rattle.lrc_field.specs.Field.{times}
use Rattle.lrc_field.specs.Sums.{sums}
use Rattle.lrc_code.specs.declared.places.Place.{Place}
use Rattle.lrc_code.specs.declared.places.Place.TheVariants.{Px, Py, P0, P1}
use Rattle.lrc_code.specs.declared.codes.Code.{Code as CodeName}
use Rattle.lrc_code.specs.Places.{index_of, same_place}
use Rattle.lrc_code.specs.Code.{Code, has_place, IsInCode, Solves}
use Rattle.lrc_code.specs.Codes.{tables_of}
use Rattle.lrc_c.specs.Arguments.{code_numbered}

-- whether a place is a parity's
abbrev pub is_parity : Place → Bool
is_parity p = list_any (same_place p) (Px ∷ Py ∷ P0 ∷ P1 ∷ [])

-- a parity's room has the length, or none
abbrev pub IsRoom : ℕ → ℕ → Type 0
IsRoom len room = (room ≡ len) ⊎ (room ≡ 0)

-- the number is the code's, the index that of one of its data places, and each parity's room has the length or none
pub record IsUpdate (number index len a b c d : ℕ) (code : CodeName) (place : Place) : Type 0 where
  pub code_is : code_numbered number ≡ Some code
  pub place_is : index_of place ≡ index
  pub of_code : has_place (tables_of code) place ≡ true
  pub is_data : is_parity place ≡ false
  pub px : IsRoom len a
  pub py : IsRoom len b
  pub p0 : IsRoom len c
  pub p1 : IsRoom len d

-- the same values at the code's data places other than one
abbrev pub SameOthers : {A : Type 0} → Code → Place → (Place → A) → (Place → A) → Type 0
SameOthers code place before after =
    (p : Place) → has_place code p ≡ true → is_parity p ≡ false → same_place place p ≡ false → after p ≡ before p

-- two stripes of a code whose data differ at one place alone, there by these bytes
pub record DifferAt (code : Code) (place : Place) (difference : List ℕ) (before after : Place → List ℕ) : Type 0 where
  pub is_before : IsInCode code (length difference) before
  pub is_after : IsInCode code (length difference) after
  pub there : after place ≡ sums (before place) difference
  pub others : SameOthers code place before after

-- What becomes of a parity's bytes: of those of the first of two such stripes, those of the second. A room of another length is left
-- alone.
pub record IsUpdated (code : Code) (place : Place) (difference : List ℕ) (parity : Place) (old new : List ℕ) : Type 0 where
  pub given : length old ≡ length difference → (before after : Place → List ℕ) → DifferAt code place difference before after
      → before parity ≡ old → after parity ≡ new
  pub absent : length old ≢ length difference → new ≡ old

-- ---- the steps

-- a byte at each place of the code, which solve its equations
pub record AreSolution (code : Code) (b : Place → ℕ) : Type 0 where
  pub bytes : (p : Place) → has_place code p ≡ true → b p < 2 ^ 8
  pub solves : Solves code.equations code.places b

-- where the byte at one data place alone changes, the parity's changes by the coefficient times the difference
abbrev pub IsCoefficient : Code → Place → Place → ℕ → Type 0
IsCoefficient code place parity c =
    (b d : Place → ℕ) → AreSolution code b → AreSolution code d → SameOthers code place b d
    → (x : ℕ) → d place ≡ bit_xor (b place) x → d parity ≡ bit_xor (b parity) (times c x)

-- the coefficients in the four parities
pub record AreCoefficients (code : Code) (place : Place) (px py p0 p1 : ℕ) : Type 0 where
  pub of_px : IsCoefficient code place Px px
  pub of_py : IsCoefficient code place Py py
  pub of_p0 : IsCoefficient code place P0 p0
  pub of_p1 : IsCoefficient code place P1 p1
