-- How many bytes the fragments of a stripe have.
use Rattle.std.specs.Prelude.{◌≡◌, ◌⊎◌, ◌<◌, ◌&&◌, ℕ, List, Bool, true, Option, Some, None, IfSome, slice_index_or}
use Rattle.lrc_code.specs.declared.places.Place.{Place}
use Rattle.lrc_code.specs.declared.codes.Code.{Code as CodeName}
use Rattle.lrc_code.specs.Code.{has_place}
use Rattle.lrc_code.specs.Codes.{tables_of}
use Rattle.lrc_code.specs.Places.{index_of}
use Rattle.store_repair.specs.Losses.{AreChecked}
use Rattle.store_repair.specs.Scrubbed.{AreOfOneStripe}
use Rattle.stores.specs.Store.{Files, ShownFiles}
use Rattle.store_repair.specs.declared.lengths.StripeLength.{StripeLength}
use Rattle.store_repair.specs.declared.lengths.StripeLength.TheVariants as stripe_length
use Rattle.stores.specs.declared.stripes.Found.{Found as FoundName}
use Rattle.stores.specs.declared.stripes.Found.TheVariants as found
use Rattle.stores.specs.Stripes.{HasLength, has_file}

-- what was found at a place of the code, if it is a file, has so many bytes
abbrev pub HasLengthAt : CodeName → List FoundName → ℕ → Place → Type 0
HasLengthAt code files len p =
    has_place (tables_of code) p ≡ true → HasLength len (slice_index_or files (index_of p) found.Absent)

-- each file at a place of the code has so many bytes
abbrev pub HaveOneLength : CodeName → List FoundName → ℕ → Type 0
HaveOneLength code files len = (p : Place) → HasLengthAt code files len p

-- the same at the places before an index, or there is no file
abbrev pub HaveOneLengthBefore : CodeName → List FoundName → ℕ → Option ℕ → Type 0
HaveOneLengthBefore code files n None = (len : ℕ) (p : Place) → index_of p < n → HasLengthAt code files len p
HaveOneLengthBefore code files n (Some len) = (p : Place) → index_of p < n → HasLengthAt code files len p

-- a place of the code at which a file of so many bytes was found
abbrev pub HasFileOf : CodeName → List FoundName → ℕ → Type 0
HasFileOf code files len = (p : Place) × ((has_place (tables_of code) p && has_file files len p) ≡ true)

-- a length that each file at a place of the code has, and that one has
pub record IsCommonLength (code : CodeName) (files : List FoundName) (len : ℕ) : Type 0 where
  pub each : HaveOneLength code files len
  pub some : HasFileOf code files len

-- at the places of the code are files of several lengths, or none
abbrev pub HaveNoCommonLength : CodeName → List FoundName → Type 0
HaveNoCommonLength code files = (len : ℕ) → ¬ IsCommonLength code files len

-- checks confirm a length: fragments of it, under a stripe's names, are checked and of one stripe of the code
abbrev pub IsConfirmed : CodeName → ℕ → List ℕ → Files → Type 0
IsConfirmed code len stripe files =
    (survives : Place → Bool) × AreChecked code survives len × AreOfOneStripe code survives len stripe files

-- a digest shows a length: the store knows one of a file of that length at a place of the code
abbrev pub IsDigested : CodeName → List FoundName → List ℕ → (List ℕ → Place → Type 0) → ℕ → Type 0
IsDigested code files stripe listed len =
    (p : Place) × ((has_place (tables_of code) p && has_file files len p) ≡ true) × listed stripe p

-- checks confirm a length, or a digest shows it
abbrev pub IsShownLength : CodeName → List FoundName → List ℕ → ShownFiles → (List ℕ → Place → Type 0) → ℕ → Type 0
IsShownLength code files stripe shown listed len =
    IfSome shown (IsConfirmed code len stripe) ⊎ IsDigested code files stripe listed len

-- what is said of a stripe's length: that each of its files has it, that checks confirm it, or that a digest shows it
abbrev pub IsStripeLength : CodeName → List FoundName → List ℕ → ShownFiles → (List ℕ → Place → Type 0) → StripeLength → Type 0
IsStripeLength code files stripe shown listed stripe_length.NoFiles = Unit {0}
IsStripeLength code files stripe shown listed (stripe_length.Known len) =
    HaveOneLength code files len ⊎ IsShownLength code files stripe shown listed len
IsStripeLength code files stripe shown listed (stripe_length.Undecided lengths) = Unit {0}

-- what holds of a length, where it is known
abbrev pub IfKnown : (ℕ → Type 0) → StripeLength → Type 0
IfKnown P stripe_length.NoFiles = Unit {0}
IfKnown P (stripe_length.Known len) = P len
IfKnown P (stripe_length.Undecided lengths) = Unit {0}

-- what holds where none is
abbrev pub IfNotKnown : Type 0 → StripeLength → Type 0
IfNotKnown P stripe_length.NoFiles = P
IfNotKnown P (stripe_length.Known len) = Unit {0}
IfNotKnown P (stripe_length.Undecided lengths) = P
