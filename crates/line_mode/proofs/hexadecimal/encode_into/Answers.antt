use Rattle.std.proofs.Common.{ℕ, arith, slice_index, ap, ◌∙◌}
use Rattle.std.proofs.lemmas.Nat.{and_mask}
use Rattle.hex.specs.Hex.{upper_digits}
use Rattle.hex.proofs.Pairs.{encode_done, encode_step}
use Rattle.line_mode.proofs.hexadecimal.encode_into.Goals as goal

pub pairs-preserved : goal.pairs-preserved
pairs-preserved c =
    let byte : ℕ = slice_index c.args.bytes.now c.pairs.i in
    encode_step upper_digits c.args.bytes.now c.pairs.digits c.pairs.i _ _ (omega arith) (omega arith) c.upper_digit.ensures
    (c.upper_digit-in-pairs.ensures ∙ ap (λ (k : ℕ). slice_index upper_digits k) (and_mask byte 4)) c.pairs.invariant

pub returns : goal.returns
returns c = encode_done upper_digits c.args.bytes.now c.pairs.digits c.pairs.i (omega arith) (omega arith) c.pairs.invariant
