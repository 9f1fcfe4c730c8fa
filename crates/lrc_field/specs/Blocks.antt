-- What a vector of 32 bytes holds.
use Rattle.std.specs.Prelude.{◌≡◌, ℕ, ◌+◌, ◌*◌, ◌%◌, ◌<◌, ◌≤◌, List, length, slice_index}
use Rattle.std.specs.Int.Bits.{bit_xor}
use Rattle.lrc_field.specs.Field.{times}
use Rattle.lrc_field.specs.declared.blocks.Quad.{Quad}
use Rattle.lrc_field.specs.declared.blocks.Trio.{Trio}
use Rattle.lrc_field.specs.declared.blocks.Six.{Six}

-- v has 32 lanes, and lane k holds f k
pub record HasLanes (v : List ℕ) (f : ℕ → ℕ) : Type 0 where
  pub long : length v ≡ 32
  pub each : (k : ℕ) → k < 32 → slice_index v k ≡ f k

-- two tables of a scalar's products: with the low and with the high halves of bytes, each table standing twice
pub record AreTables (c : ℕ) (low high : List ℕ) : Type 0 where
  pub low_long : length low ≡ 32
  pub high_long : length high ≡ 32
  pub low_is : (k : ℕ) → k < 32 → slice_index low k ≡ times c (k % 16)
  pub high_is : (k : ℕ) → k < 32 → slice_index high k ≡ times c (16 * (k % 16))

-- in the n bytes from a position on, f of the position is added
pub record IsBlockAdded (f : ℕ → ℕ) (before after : List ℕ) (i n : ℕ) : Type 0 where
  pub len : length after ≡ length before
  pub inside : (k : ℕ) → k < n → slice_index after (i + k) ≡ bit_xor (slice_index before (i + k)) (f (i + k))
  pub below : (k : ℕ) → k < i → slice_index after k ≡ slice_index before k
  pub above : (k : ℕ) → i + n ≤ k → slice_index after k ≡ slice_index before k

-- 128 lanes in four vectors, and lane k holds f k
pub record HasQuad (q : Quad) (f : ℕ → ℕ) : Type 0 where
  pub in_first : HasLanes q.first f
  pub in_second : HasLanes q.second (λ k. f (32 + k))
  pub in_third : HasLanes q.third (λ k. f (64 + k))
  pub in_fourth : HasLanes q.fourth (λ k. f (96 + k))

-- 96 lanes in three vectors, and lane k holds f k
pub record HasTrio (t : Trio) (f : ℕ → ℕ) : Type 0 where
  pub in_first : HasLanes t.first f
  pub in_second : HasLanes t.second (λ k. f (32 + k))
  pub in_third : HasLanes t.third (λ k. f (64 + k))

-- 192 lanes in six vectors, and lane k holds f k
pub record HasSix (s : Six) (f : ℕ → ℕ) : Type 0 where
  pub in_front : HasTrio s.front f
  pub in_back : HasTrio s.back (λ k. f (96 + k))

-- the bytes before index i are f of their indexes
abbrev pub AreSet : (ℕ → ℕ) → List ℕ → ℕ → Type 0
AreSet f bytes i = (k : ℕ) → k < i → slice_index bytes k ≡ f k
