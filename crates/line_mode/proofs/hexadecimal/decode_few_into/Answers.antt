use Rattle.std.proofs.Common.{arith}
use Rattle.line_mode.proofs.Digits.{decoded-done, decoded-seen}
use Rattle.line_mode.proofs.hexadecimal.decode_few_into.Goals as goal

pub pairs-preserved : goal.pairs-preserved
pairs-preserved c =
    decoded-seen c.args.text.now c.pairs.bytes c.pairs.i c.pairs.seen c.table_value-high.result c.table_value-low.result _
    (omega arith) (omega arith) c.table_value-high.ensures c.table_value-low.ensures
    (λ high low. omega (arith, high, low)) c.pairs.invariant

pub returns-clause-value : goal.returns-clause-value
returns-clause-value c = decoded-done c.args.text.now c.pairs.bytes c.pairs.i c.pairs.seen (omega arith) (omega arith) c.pairs.invariant
