use Rattle.std.proofs.Common.{ℕ, ◌∙◌, ap, arith, max}
use Rattle.line_mode.proofs.Digits.{decoded-done, decoded-step}
use Rattle.line_mode.proofs.hexadecimal.decode_into.Goals as goal

pub pairs-preserved : goal.pairs-preserved
pairs-preserved c =
    decoded-step c.args.text.now c.pairs.bytes c.pairs.i c.pairs.greatest c.digit_value-high.result c.digit_value-low.result _
    c.max-greatest.result
    (omega arith) (omega arith) c.digit_value-high.ensures c.digit_value-low.ensures (λ high low. omega (arith, high, low))
    (c.max-greatest.ensures ∙ ap (λ (m : ℕ). max m c.digit_value-low.result) c.max.ensures) c.pairs.invariant

pub returns-clause-value : goal.returns-clause-value
returns-clause-value c = decoded-done c.args.text.now c.pairs.bytes c.pairs.i c.pairs.greatest (omega arith) (omega arith) c.pairs.invariant
