-- The eight parts of a room.
use Rattle.std.proofs.Common.{ℕ, ◌+◌, ◌*◌, ◌<◌, ◌≤◌, arith}
use Rattle.std.proofs.lemmas.Nat.{mul-le}

-- each is in it
pub part_fits : (i n len : ℕ) → i < 8 → 8 * n ≤ len → i * n + n ≤ len
part_fits i n len less room = omega (arith, mul-le i n 7 n (omega arith) (omega arith))
