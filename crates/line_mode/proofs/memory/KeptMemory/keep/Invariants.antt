use Rattle.std.proofs.Common.{vec_len}
use Rattle.line_mode.proofs.memory.KeptMemory.keep.Given as goal

abbrev pub decreases-loop-fragment : goal.decreases-loop-fragment
decreases-loop-fragment l = vec_len l.list
