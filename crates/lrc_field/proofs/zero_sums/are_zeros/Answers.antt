use Rattle.std.proofs.Common.{◌≡◌, get_or, ap₂, arith, bit_or}
use Rattle.std.proofs.lemmas.Nat.{le_or_l, le_or_r}
use borrow.Author.Count.{below_more}
use Rattle.lrc_field.proofs.zero_sums.are_zeros.Goals as goal

pub loop-byte-preserved : goal.loop-byte-preserved
loop-byte-preserved c =
    let at = c.loop-byte.byte-index in
    let byte = get_or c.args.bytes.now at 0 in
    let left = le_or_l c.loop-byte.bits byte in
    let right = le_or_r c.loop-byte.bits byte in
    record {
      zeros = λ e i h. below_more (λ k. get_or c.args.bytes.now k 0 ≡ 0) at
          (c.loop-byte.invariant.zeros (omega (arith, left, e))) (omega (arith, right, e)) i h;
      bits_zero = λ all. ap₂ bit_or (c.loop-byte.invariant.bits_zero (λ i h. all i (omega (arith, h))))
          (all at (omega arith));
    }
