-- The lawful record of a gate: what its seats have drawn, and who closed it.
use Rattle.std.specs.Prelude.{◌≡◌, ℕ, ◌+◌, ◌<◌, ◌≤◌, List, length, Bool, true, false, All, if◌then◌else◌}
use Rattle.std.specs.List.{sum_by}
use Rattle.list_members.specs.Lists.{Each}
use Rattle.farm_lanes.specs.Counting.{times, once_below, AreBelow}
use Rattle.farm_lanes.specs.declared.gate.record.SeatRecord.{SeatRecord}
use Rattle.farm_lanes.specs.declared.gate.record.GateSize.{GateSize}

-- What every seat's record satisfies by itself: it has at most as many draws as its share and at most as many numbers as draws,
-- exactly as many while it knows no closing; who made a close knows the closing and used up a right.
pub record IsLawfulSeat (s : SeatRecord) : Type 0 where
  pub within : s.draws ≤ s.share
  pub counted : length s.numbers ≤ s.draws
  pub accepted : s.knows ≡ false → length s.numbers ≡ s.draws
  pub maker : 0 < length s.made → (s.knows ≡ true) × (0 < s.used)

-- The lawful record of a gate of which the numbers below n were given. The shares add up to the total, and each seat is lawful. Over
-- all seats the numbers are those below n, each once. While the gate is open, n is the number of all draws, and no seat knows a
-- closing or has used up a right. Once it is closed, exactly one close was made, and it was answered n. The rights still held and
-- those used up add up to the number of rights.
pub record IsLawful (size : GateSize) (closed : Bool) (n : ℕ) (seats : List SeatRecord) : Type 0 where
  pub shares : sum_by (λ (s : SeatRecord). s.share) seats ≡ size.total
  pub each : Each IsLawfulSeat seats
  pub numbers : (x : ℕ) → sum_by (λ (s : SeatRecord). times x s.numbers) seats ≡ once_below x n
  pub while_open : closed ≡ false → (n ≡ sum_by (λ (s : SeatRecord). s.draws) seats) × Each (λ s. (s.knows ≡ false) × (s.used ≡ 0)) seats
  pub one_closer : sum_by (λ (s : SeatRecord). length s.made) seats ≡ (if closed then 1 else 0)
  pub answered : Each (λ s. All (λ m. m ≡ n) s.made) seats
  pub rights : sum_by (λ (s : SeatRecord). s.held) seats + sum_by (λ (s : SeatRecord). s.used) seats ≡ size.rights

-- What any one seat's record satisfies in a lawful gate, at any time. No number is in it twice. It made at most one close, and
-- its numbers are below the answer. Where its share is the whole total, its numbers are those below some n, each once, and n is what
-- its close was answered. Where it used up all rights of the gate, it made the close.
pub record IsSound (size : GateSize) (s : SeatRecord) : Type 0 where
  pub lawful : IsLawfulSeat s
  pub share_within : s.share ≤ size.total
  pub distinct : (x : ℕ) → times x s.numbers ≤ 1
  pub one_close : length s.made ≤ 1
  pub below : All (λ m. All (λ x. x < m) s.numbers) s.made
  pub whole : s.share ≡ size.total → (n : ℕ) × AreBelow n s.numbers × All (λ m. m ≡ n) s.made
  pub closed_by : s.used ≡ size.rights → length s.made ≡ 1
