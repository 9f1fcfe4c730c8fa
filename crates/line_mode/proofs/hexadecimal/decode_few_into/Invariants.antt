use Rattle.line_mode.proofs.Digits.{IsDecoded}
use Rattle.line_mode.proofs.hexadecimal.decode_few_into.Given as goal

abbrev pub invariant-pairs : goal.invariant-pairs
invariant-pairs l = IsDecoded l.text l.bytes l.i l.seen
