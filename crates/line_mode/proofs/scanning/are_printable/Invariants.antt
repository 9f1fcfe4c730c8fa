use Rattle.line_mode.proofs.Searches.{ArePrintable}
use Rattle.line_mode.proofs.scanning.are_printable.Given as goal

abbrev pub invariant-loop-i : goal.invariant-loop-i
invariant-loop-i l = ArePrintable l.bytes l.i l.greatest
