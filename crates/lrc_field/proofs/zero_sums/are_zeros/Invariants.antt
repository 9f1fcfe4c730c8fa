use Rattle.std.proofs.Common.{◌≡◌, ◌<◌, ℕ, get_or}
use Rattle.lrc_field.proofs.zero_sums.are_zeros.Given as goal

abbrev pub invariant-loop-byte : goal.invariant-loop-byte
invariant-loop-byte l = record {
  zeros : l.bits ≡ 0 → (i : ℕ) → i < l.byte-index → get_or l.bytes i 0 ≡ 0;
  bits_zero : ((i : ℕ) → i < l.byte-index → get_or l.bytes i 0 ≡ 0) → l.bits ≡ 0;
}
