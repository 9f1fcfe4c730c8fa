-- Lists of terms, which are made of sources and a coefficient for each.
use Rattle.std.specs.Prelude.{◌≡◌, ◌≢◌, ◌≤◌, ℕ, List, [], length, slice_index, slice_index_or}
use Rattle.lrc_field.specs.Sums.{column, combination}
use Rattle.lrc_field.specs.declared.terms.Term.{Term}
use Rattle.lrc_field.specs.Combined.{HaveLength, sum_at}

-- at most sixteen terms, each with so many bytes
pub record HaveRoom (len : ℕ) (ts : List Term) : Type 0 where
  pub few : length ts ≤ 16
  pub lengths : HaveLength len ts

-- and at each position they add up to the combination of the sources' bytes there with the coefficients
pub record AreTermsOf (coefficients : List ℕ) (sources : List (List ℕ)) (len : ℕ) (ts : List Term) : Type 0 where
  pub room : HaveRoom len ts
  pub sums : (i : ℕ) → sum_at ts i ≡ combination coefficients (column sources i)

-- where a coefficient isn't 0, its source has so many bytes, or none
abbrev pub HaveLengthWhereUsed : List ℕ → List (List ℕ) → ℕ → Type 0
HaveLengthWhereUsed coefficients sources len =
    (k : ℕ) → slice_index coefficients k ≢ 0 → length (slice_index_or sources k []) ≢ 0 → length (slice_index_or sources k []) ≡ len
