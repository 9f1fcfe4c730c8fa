-- What is tested and written in windows.
use Rattle.std.specs.Prelude.{◌≡◌, ◌<◌, ℕ, List, length, Option, Some, None}
use Rattle.std.specs.Borrow.{Bor}
use Rattle.lrc_field.specs.declared.terms.Term.{Term}
use Rattle.lrc_field.specs.declared.pairs.Pair.{Pair}
use Rattle.lrc_field.specs.Combined.{sum_at, AreZeroBetween}
use Rattle.lrc_field.specs.Terms.{HaveRoom}
use Rattle.lrc_field.specs.Pairs.{first_sum_at, second_sum_at, HavePairsRoom}
use Rattle.lrc_c.specs.declared.windows.Couple.{Couple}
use Rattle.lrc_c.specs.declared.windows.Wants.{Wants}
use Rattle.lrc_c.specs.declared.windows.Checks.{Checks}
use Rattle.lrc_c.specs.Combined.{IsWritten}

-- sums of a length have a room of that length
abbrev pub HasRoom : ℕ → Option (Bor (List Term)) → ℕ → Type 0
HasRoom len None room = Unit
HasRoom len (Some ts) room = HaveRoom len ts.now × (room ≡ len)

-- the sums are in the room before an index
abbrev pub IsSomeWritten : Option (Bor (List Term)) → List ℕ → ℕ → Type 0
IsSomeWritten None bytes i = Unit
IsSomeWritten (Some ts) bytes i = IsWritten ts.now bytes i

-- what is wanted are these sums
abbrev pub AreSums : Option (Bor (List Term)) → (ℕ → ℕ) → Type 0
AreSums None f = Unit
AreSums (Some ts) f = (i : ℕ) → sum_at ts.now i ≡ f i

-- pairs whose sums are what is wanted in two rooms of a length
pub record AreCouple (len : ℕ) (one other : Option (Bor (List Term))) (a b : ℕ) (ps : List Pair) : Type 0 where
  pub room : HavePairsRoom len ps
  pub first_room : a ≡ len
  pub second_room : b ≡ len
  pub first : AreSums one (first_sum_at ps)
  pub second : AreSums other (second_sum_at ps)

-- each of two has its room, and the pairs, where there are any, are of both
pub record HaveRooms (len : ℕ) (c : Couple) (a b : ℕ) : Type 0 where
  pub first : HasRoom len c.first a
  pub second : HasRoom len c.second b
  pub pairs : 0 < length c.pairs.now → AreCouple len c.first c.second a b c.pairs.now

-- each of four has its room
pub record AreRooms (len : ℕ) (w : Wants) (a b c d : ℕ) : Type 0 where
  pub front : HaveRooms len w.front a b
  pub back : HaveRooms len w.back c d

-- each of four is in its room before an index
pub record AreWritten (w : Wants) (i : ℕ) (a b c d : List ℕ) : Type 0 where
  pub first : IsSomeWritten w.front.first a i
  pub second : IsSomeWritten w.front.second b i
  pub third : IsSomeWritten w.back.first c i
  pub fourth : IsSomeWritten w.back.second d i

-- checks of a length
pub record AreReady (c : Checks) : Type 0 where
  pub first : HaveRoom c.len c.first.now
  pub second : HaveRoom c.len c.second.now
  pub third : HaveRoom c.len c.third.now
  pub fourth : HaveRoom c.len c.fourth.now

-- each check is 0 from one index on and below another
pub record AreZeroWithin (from to : ℕ) (c : Checks) : Type 0 where
  pub first : AreZeroBetween from to c.first.now
  pub second : AreZeroBetween from to c.second.now
  pub third : AreZeroBetween from to c.third.now
  pub fourth : AreZeroBetween from to c.fourth.now
