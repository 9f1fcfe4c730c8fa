-- Sums of scaled slices.
use Rattle.std.specs.Prelude.{◌≡◌, ℕ, ◌<◌, ◌≤◌, List, [], ◌∷◌, All, length, slice_index}
use Rattle.std.specs.Int.Bits.{bit_xor}
use Rattle.lrc_field.specs.Field.{times}
use Rattle.lrc_field.specs.declared.terms.Term.{Term}

-- a term's scalar times its byte at an index
abbrev pub product_at : Term → ℕ → ℕ
product_at t i = times t.scalar (slice_index t.bytes.now i)

-- the sum of the terms at an index: exclusive or of each one's product there
abbrev pub sum_at : List Term → ℕ → ℕ
sum_at [] i = 0
sum_at (t ∷ ts) i = bit_xor (product_at t i) (sum_at ts i)

-- the sum of three lists' bytes at an index, each 1 time
abbrev pub three_at : List ℕ → List ℕ → List ℕ → ℕ → ℕ
three_at xs ys zs i = bit_xor (times 1 (slice_index xs i)) (bit_xor (times 1 (slice_index ys i)) (times 1 (slice_index zs i)))

-- each term has so many bytes
abbrev pub HaveLength : ℕ → List Term → Type 0
HaveLength n ts = All (λ t. length t.bytes.now ≡ n) ts

-- each term has at least so many bytes
abbrev pub Reach : ℕ → List Term → Type 0
Reach n ts = All (λ t. n ≤ length t.bytes.now) ts

-- the sum of the terms is 0 at so many positions
abbrev pub AreZeroBelow : ℕ → List Term → Type 0
AreZeroBelow n ts = (i : ℕ) → i < n → sum_at ts i ≡ 0

-- the sum of the terms is 0 at the indexes from one on and below another
abbrev pub AreZeroBetween : ℕ → ℕ → List Term → Type 0
AreZeroBetween from to ts = (i : ℕ) → from ≤ i → i < to → sum_at ts i ≡ 0

-- to the byte at each index before i, f of the index was added, and nothing else changed
pub record IsAddedBelow (f : ℕ → ℕ) (before after : List ℕ) (i : ℕ) : Type 0 where
  pub len : length after ≡ length before
  pub done : (k : ℕ) → k < i → slice_index after k ≡ bit_xor (slice_index before k) (f k)
  pub rest : (k : ℕ) → i ≤ k → slice_index after k ≡ slice_index before k
