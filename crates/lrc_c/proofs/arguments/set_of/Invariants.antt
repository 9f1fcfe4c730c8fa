use Rattle.lrc_c.proofs.Masks.{IsSetBelow}
use Rattle.lrc_c.proofs.arguments.set_of.Given as goal

abbrev pub invariant-loop-i : goal.invariant-loop-i
invariant-loop-i l = IsSetBelow l.mask l.i l.set
