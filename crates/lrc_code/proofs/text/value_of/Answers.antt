use Rattle.std.proofs.Common.{arith}
use Rattle.lrc_code.proofs.Digits.{below_million, digit_at, next_small, next_value}
use Rattle.lrc_code.proofs.text.value_of.Goals as goal

pub overflow_mul-value : goal.overflow_mul-value
overflow_mul-value c =
    let small = below_million c.loop-digit.digit-index c.loop-digit.value (omega arith) c.loop-digit.invariant.small in omega (arith, small)

pub overflow_add-value : goal.overflow_add-value
overflow_add-value c =
    let small = below_million c.loop-digit.digit-index c.loop-digit.value (omega arith) c.loop-digit.invariant.small in
    let d = digit_at c.args.digits.now c.loop-digit.digit-index c.loop-digit-test.true c.requires.digits in
    omega (arith, small, d.low, d.high)

pub loop-digit-preserved : goal.loop-digit-preserved
loop-digit-preserved c = record {
  value = next_value c.args.digits.now c.loop-digit.digit-index c.loop-digit.value c.loop-digit-test.true c.requires.digits
      c.loop-digit.invariant.value;
  small = next_small c.loop-digit.digit-index c.loop-digit.value _ c.loop-digit.invariant.small
      (digit_at c.args.digits.now c.loop-digit.digit-index c.loop-digit-test.true c.requires.digits);
}
