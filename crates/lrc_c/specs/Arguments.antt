-- What the numbers mean that C passes.
use Rattle.std.specs.Prelude.{◌≡◌, ℕ, List, length, Bool, true, false, ◌<◌, ◌≤◌, ◌==◌, Option, Some, None, if◌then◌else◌}
use Rattle.std.specs.Int.{bit_at}
use Rattle.lrc_code.specs.declared.places.Place.{Place}
use Rattle.lrc_code.specs.declared.codes.Code.{Code as CodeName}
use Rattle.lrc_code.specs.declared.codes.Code.TheVariants.{Narrow, Wide}
use Rattle.lrc_code.specs.Places.{index_of}
use Rattle.lrc_code.specs.Code.{has_place}
use Rattle.lrc_code.specs.Codes.{tables_of}
use Rattle.lrc_plan.specs.Stripes.{AreUsed, AreWhole}

-- the code of a number
abbrev pub code_numbered : ℕ → Option CodeName
code_numbered n = if n == 0 then Some Narrow else if n == 1 then Some Wide else None

-- whether a place's bit is set
abbrev pub is_set : ℕ → Place → Bool
is_set mask p = bit_at mask (index_of p) == 1

-- the number is the code's, and the index that of one of its places, whose bit is not set
pub record IsLost (number mask target : ℕ) (code : CodeName) (place : Place) : Type 0 where
  pub code_is : code_numbered number ≡ Some code
  pub place_is : index_of place ≡ target
  pub of_code : has_place (tables_of code) place ≡ true
  pub lost : is_set mask place ≡ false

-- and the bytes at the places of the set bits have a length, which is not 0
pub record IsAsked (number mask target : ℕ) (at : List (List ℕ)) (len : ℕ) (code : CodeName) (place : Place) : Type 0 where
  pub of_target : IsLost number mask target code place
  pub some : 0 < len
  pub whole : AreWhole code (is_set mask) at len

-- the number is the code's, and the bytes at the places of the set bits, which are its own, have a length
pub record IsSurveyed (number mask : ℕ) (at : List (List ℕ)) (len : ℕ) (code : CodeName) : Type 0 where
  pub code_is : code_numbered number ≡ Some code
  pub whole : AreWhole code (is_set mask) at len

-- a coefficient for each of at most sixteen sources, which have the length where their coefficient isn't 0
pub record CanCombine (coefficients : List ℕ) (sources : List (List ℕ)) (len : ℕ) : Type 0 where
  pub count : length coefficients ≡ length sources
  pub few : length coefficients ≤ 16
  pub used : AreUsed coefficients sources len
