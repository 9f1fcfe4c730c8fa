use Rattle.lrc_c.proofs.Masks.{AreBitsBelow}
use Rattle.lrc_c.proofs.arguments.bits_of.Given as goal

abbrev pub invariant-loop-i : goal.invariant-loop-i
invariant-loop-i l = AreBitsBelow l.set l.i l.bits
