-- What holds of a pattern's names.
use Rattle.std.specs.Prelude.{◌≡◌, ℕ, ◌<◌, ◌≤◌, true, List}
use Rattle.lrc_code.specs.declared.places.Place.{Place}
use Rattle.lrc_code.specs.declared.codes.Code.{Code as CodeName}
use Rattle.store_names.specs.declared.patterns.Pattern.{Pattern}
use Rattle.store_names.specs.Names.{IsMade}
use Rattle.store_names.specs.Parts.{is_of_part}

-- one name is made of one stripe and one place at most
abbrev pub NamesDiffer : Pattern → Type 0
NamesDiffer p = (code : CodeName) (s t : List ℕ) (place other : Place) (name : List ℕ) → IsMade p code s place name
    → IsMade p code t other name → (s ≡ t) × (place ≡ other)

-- a stripe is of one part of so many, and of no other
pub record HasOnePart (stripe : List ℕ) (of : ℕ) : Type 0 where
  pub index : ℕ
  pub from : 1 ≤ index
  pub to : index ≤ of
  pub is : is_of_part index of stripe ≡ true
  pub only : (other : ℕ) → is_of_part other of stripe ≡ true → other ≡ index

abbrev pub PartsArePartition : Type 0
PartsArePartition = (stripe : List ℕ) (of : ℕ) → 0 < of → HasOnePart stripe of
