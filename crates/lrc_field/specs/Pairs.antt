-- Two sums over the same slices.
use Rattle.std.specs.Prelude.{ℕ, ◌≡◌, ◌≤◌, List, [], ◌∷◌, All, length, slice_index}
use Rattle.std.specs.Int.Bits.{bit_xor}
use Rattle.lrc_field.specs.Field.{times}
use Rattle.lrc_field.specs.Sums.{column, combination}
use Rattle.lrc_field.specs.declared.pairs.Pair.{Pair}

-- the sum at an index of the pairs' bytes there, each times a scalar of its pair
abbrev pub scaled_sum_at : (Pair → ℕ) → List Pair → ℕ → ℕ
scaled_sum_at scalar [] i = 0
scaled_sum_at scalar (p ∷ ps) i = bit_xor (times (scalar p) (slice_index p.bytes.now i)) (scaled_sum_at scalar ps i)

-- each times the first, and each times the second
abbrev pub first_sum_at : List Pair → ℕ → ℕ
first_sum_at ps i = scaled_sum_at (λ p. p.first) ps i

abbrev pub second_sum_at : List Pair → ℕ → ℕ
second_sum_at ps i = scaled_sum_at (λ p. p.second) ps i

-- each pair has at least so many bytes
abbrev pub AllReach : ℕ → List Pair → Type 0
AllReach n ps = All (λ p. n ≤ length p.bytes.now) ps

-- each pair has so many bytes
abbrev pub HavePairsRoom : ℕ → List Pair → Type 0
HavePairsRoom len ps = All (λ p. length p.bytes.now ≡ len) ps

-- and at each position they add up to the combinations of the sources' bytes there with the coefficients
pub record ArePairsOf (firsts seconds : List ℕ) (sources : List (List ℕ)) (len : ℕ) (ps : List Pair) : Type 0 where
  pub room : HavePairsRoom len ps
  pub first_sums : (i : ℕ) → first_sum_at ps i ≡ combination firsts (column sources i)
  pub second_sums : (i : ℕ) → second_sum_at ps i ≡ combination seconds (column sources i)
