-- A file and its stripe.
use Rattle.std.specs.Prelude.{◌≡◌, ◌<◌, ◌+◌, ◌-◌, ◌*◌, ◌/◌, ◌++◌, ◌∷◌, ℕ, List, [], length, map, replicate, slice_index, slice_index_or}
use Rattle.std.specs.Prelude.{slice_set, Bool, true, Option, Some, None}
use Rattle.std.specs.List.{range_with_len}
use Rattle.lrc_code.specs.declared.places.Place.{Place}
use Rattle.lrc_code.specs.declared.codes.Code.{Code as CodeName}
use Rattle.lrc_code.specs.Code.{AreBytes}
use Rattle.lrc_code.specs.Codes.{data_count, padded_parities_of, tables_of}
use Rattle.lrc_code.specs.Encoding.{IsStripeOf}
use Rattle.lrc_plan.specs.Stripes.{at_place}

-- how many bytes each fragment of a file of so many bytes has: enough that the data fragments have room for all of them
abbrev pub fragment_length : CodeName → ℕ → ℕ
fragment_length code bytes = (bytes + (data_count code - 1)) / data_count code

-- so many bytes of a file from a position on, with 00 after its end
abbrev pub part : List ℕ → ℕ → ℕ → List ℕ
part file from many = map (λ k. slice_index file (from + k)) (range_with_len 0 many)

-- the parts of a file, one after the other: as many as a code has data fragments, of one length
abbrev pub parts : CodeName → ℕ → List ℕ → List (List ℕ)
parts code len file = map (λ i. part file (i * len) len) (range_with_len 0 (data_count code))

-- a stripe of the code whose data fragments are a file's parts
abbrev pub IsStripeOfFile : CodeName → List ℕ → (Place → List ℕ) → Type 0
IsStripeOfFile code file s =
    let len = fragment_length code (length file) in
    IsStripeOf (tables_of code) len (parts code len file) s

-- the bytes that the only such stripe has at a place
pub record IsFragmentOf (code : CodeName) (file : List ℕ) (place : Place) (bytes : List ℕ) : Type 0 where
  pub stripe : Place → List ℕ
  pub of_file : IsStripeOfFile code file stripe
  pub is : stripe place ≡ bytes
  pub only : (s : Place → List ℕ) → IsStripeOfFile code file s → s place ≡ bytes

-- what is shown of a new file is a file's fragment at a place
abbrev pub IsFragmentShown : CodeName → List ℕ → Place → Option (List ℕ) → Type 0
IsFragmentShown code file place None = Unit
IsFragmentShown code file place (Some bytes) = IsFragmentOf code file place bytes

-- what is shown of each new file is, at the place of its index
abbrev pub AreFragmentsOf : {N : Type 0} → (N → Option (List ℕ)) → CodeName → List ℕ → List Place → List N → Type 0
AreFragmentsOf shown code file places files =
    (k : ℕ) (d : Place) (e : _) → k < length files
    → IsFragmentShown code file (slice_index_or places k d) (shown (slice_index_or files k e))

-- survivors, listed by the places' indexes, have the bytes of a file's fragments
abbrev pub AreOfFile : CodeName → (Place → Bool) → List (List ℕ) → List ℕ → Type 0
AreOfFile code survives at file =
    (s : Place → List ℕ) × IsStripeOfFile code file s × ((p : Place) → survives p ≡ true → s p ≡ at_place at p)

-- survivors that are each a file's fragment at its place are those of one stripe of the file
abbrev pub FragmentsAreOfFile : Type 0
FragmentsAreOfFile = (code : CodeName) (survives : Place → Bool) (at : List (List ℕ)) (file : List ℕ) → AreBytes file
    → ((p : Place) → survives p ≡ true → IsFragmentOf code file p (at_place at p)) → AreOfFile code survives at file

-- sixteen coefficients, of which the one at an index is 01 and the others are 00
abbrev pub unit_row : ℕ → List ℕ
unit_row k = slice_set (replicate 16 0) k 1

-- what makes each fragment of the data fragments, in the order of the code's places: itself, or the combination that a parity is
abbrev pub encoding_rows : CodeName → List (List ℕ)
encoding_rows code =
    map unit_row (range_with_len 0 (data_count code)) ++ map (λ row. row ++ (0 ∷ 0 ∷ 0 ∷ 0 ∷ [])) (padded_parities_of code)
