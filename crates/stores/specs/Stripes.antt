-- What was found under the names of a stripe's fragments.
use Rattle.std.specs.Prelude.{◌≡◌, ℕ, List, All, Bool, false, ◌==◌, not, slice_index_or, Contains}
use Rattle.lrc_code.specs.declared.places.Place.{Place}
use Rattle.lrc_code.specs.Places.{index_of}
use Rattle.stores.specs.declared.stripes.Found.{Found as FoundName}
use Rattle.stores.specs.declared.stripes.Found.TheVariants as found

-- whether what was found is a file of so many bytes
abbrev pub is_file : ℕ → FoundName → Bool
is_file len found.Absent = false
is_file len (found.File length) = length == len
is_file len found.Dangling = false
is_file len found.Other = false
is_file len (found.Unknown code) = false

-- whether there is a file of so many bytes at a place; what was found is listed by the places' indexes
abbrev pub has_file : List FoundName → ℕ → Place → Bool
has_file files len p = is_file len (slice_index_or files (index_of p) found.Absent)

-- whether what was found is a file of another length
abbrev pub is_other_file : ℕ → FoundName → Bool
is_other_file len found.Absent = false
is_other_file len (found.File length) = not (length == len)
is_other_file len found.Dangling = false
is_other_file len found.Other = false
is_other_file len (found.Unknown code) = false

-- whether there is a file of another length at a place
abbrev pub has_other_file : List FoundName → ℕ → Place → Bool
has_other_file files len p = is_other_file len (slice_index_or files (index_of p) found.Absent)

-- what was found, if it is a file, has so many bytes
abbrev pub HasLength : ℕ → FoundName → Type 0
HasLength len found.Absent = Unit {0}
HasLength len (found.File length) = length ≡ len
HasLength len found.Dangling = Unit {0}
HasLength len found.Other = Unit {0}
HasLength len (found.Unknown code) = Unit {0}

-- a length that each file among what was found has, and that one has
pub record IsLengthOf (files : List FoundName) (len : ℕ) : Type 0 where
  pub each : All (HasLength len) files
  pub some : Contains files (found.File len)
