-- Rows of coefficients as sums of scaled fragments.
use Rattle.std.specs.Prelude.{◌≡◌, ◌<◌, ℕ, List, length, map, slice_index}
use Rattle.lrc_field.specs.declared.terms.Term.{Term}
use Rattle.lrc_field.specs.Combined.{sum_at}
use Rattle.lrc_field.specs.Sums.{combination}
use Rattle.lrc_field.specs.Terms.{HaveRoom}
use Rattle.lrc_code.specs.Places.{all_places}
use Rattle.lrc_code.specs.Requests.{Asked}
use Rattle.lrc_plan.specs.Evaluation.{byte_at}

-- at every index the sum of the terms
pub record IsCombined (n : ℕ) (ts : List Term) (bytes : List ℕ) : Type 0 where
  pub len : length bytes ≡ n
  pub at : (i : ℕ) → i < n → slice_index bytes i ≡ sum_at ts i

-- the sum of a row's products with the survivors' bytes at a position
abbrev pub row_at : Asked → List ℕ → ℕ → ℕ
row_at r row i = combination row (map (byte_at r i) all_places)

-- it is 0 at every position
abbrev pub IsZeroRow : Asked → List ℕ → Type 0
IsZeroRow r row = (i : ℕ) → i < r.len → row_at r row i ≡ 0

-- the sums at all positions
pub record AreRowSums (r : Asked) (row : List ℕ) (bytes : List ℕ) : Type 0 where
  pub len : length bytes ≡ r.len
  pub at : (i : ℕ) → i < r.len → slice_index bytes i ≡ row_at r row i

-- at most sixteen fragments of the request's length, with scalars, whose sums are the row's
pub record AreRowTerms (r : Asked) (row : List ℕ) (ts : List Term) : Type 0 where
  pub room : HaveRoom r.len ts
  pub sums : (i : ℕ) → sum_at ts i ≡ row_at r row i
