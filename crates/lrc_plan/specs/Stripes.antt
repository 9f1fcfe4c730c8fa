-- Stripes that keep the bytes at some places, and what is said of them. Bytes are listed by the places' indexes.
use Rattle.std.specs.Prelude.{◌≡◌, ◌≢◌, ℕ, ◌<◌, List, [], ◌∷◌, length, slice_index, slice_index_or, Bool, true, not, ◌&&◌, ◌||◌, ◌==◌, All}
use Rattle.lrc_code.specs.declared.places.Place.{Place}
use Rattle.lrc_code.specs.declared.codes.Code.{Code as CodeName}
use Rattle.lrc_field.specs.Sums.{combination, column}
use Rattle.lrc_code.specs.Places.{index_of}
use Rattle.lrc_code.specs.Code.{Code, IsInCode, has_place}
use Rattle.lrc_code.specs.Codes.{tables_of}

-- a stripe of a length in the code that keeps the bytes at the places of a set
pub record Keeps (code : Code) (survives : Place → Bool) (at : Place → List ℕ) (len : ℕ) (s : Place → List ℕ) : Type 0 where
  pub in_code : IsInCode code len s
  pub kept : (p : Place) → survives p ≡ true → s p ≡ at p

-- a stripe keeps them
abbrev pub IsPossible : Code → (Place → Bool) → (Place → List ℕ) → ℕ → Type 0
IsPossible code survives at len = (s : Place → List ℕ) × Keeps code survives at len s

-- no stripe does
abbrev pub IsContradiction : Code → (Place → Bool) → (Place → List ℕ) → ℕ → Type 0
IsContradiction code survives at len = (s : Place → List ℕ) → ¬ Keeps code survives at len s

-- a stripe does, and each that does has these bytes at the target
abbrev pub IsRebuilt : Code → (Place → Bool) → (Place → List ℕ) → ℕ → Place → List ℕ → Type 0
IsRebuilt code survives at len target out =
    IsPossible code survives at len × ((s : Place → List ℕ) → Keeps code survives at len s → s target ≡ out)

-- two stripes do and differ at the target
abbrev pub AreSeveral : Code → (Place → Bool) → (Place → List ℕ) → ℕ → Place → Type 0
AreSeveral code survives at len target =
    (a : Place → List ℕ) × (b : Place → List ℕ) × Keeps code survives at len a × Keeps code survives at len b × (a target ≢ b target)

-- a row's combination is 0 at every position
abbrev pub IsZeroRow : List ℕ → List (List ℕ) → ℕ → Type 0
IsZeroRow row xss len = (k : ℕ) → k < len → combination row (column xss k) ≡ 0

-- each row's is
abbrev pub AreZeroRows : List (List ℕ) → List (List ℕ) → ℕ → Type 0
AreZeroRows rows xss len = All (λ row. IsZeroRow row xss len) rows

-- the bytes listed for a place
abbrev pub at_place : List (List ℕ) → Place → List ℕ
at_place xss p = slice_index_or xss (index_of p) []

-- whether a place, if it is in a set, is the code's and has so many bytes
abbrev pub is_whole_at : CodeName → (Place → Bool) → List (List ℕ) → ℕ → Place → Bool
is_whole_at code survives at len p = not (survives p) || (has_place (tables_of code) p && length (at_place at p) == len)

-- each place of a set is the code's and has so many bytes
abbrev pub AreWhole : CodeName → (Place → Bool) → List (List ℕ) → ℕ → Type 0
AreWhole code survives at len = (p : Place) → is_whole_at code survives at len p ≡ true

-- where a coefficient isn't 0, the bytes have a length
abbrev pub AreUsed : List ℕ → List (List ℕ) → ℕ → Type 0
AreUsed [] xss len = Unit
AreUsed (c ∷ cs) [] len = Unit
AreUsed (c ∷ cs) (xs ∷ xss) len = (c ≢ 0 → length xs ≡ len) × AreUsed cs xss len

-- the same at one index
abbrev pub IsUsedAt : List ℕ → List (List ℕ) → ℕ → ℕ → Type 0
IsUsedAt cs xss len k = k < length xss → slice_index cs k ≢ 0 → length (slice_index_or xss k []) ≡ len
