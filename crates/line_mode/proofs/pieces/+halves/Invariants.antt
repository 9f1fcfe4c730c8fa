use Rattle.std.proofs.Common.{◌+◌, ◌*◌}
use Rattle.line_mode.proofs.pieces.+halves.Given as goal

abbrev pub decreases-reply_in_halves : goal.decreases-reply_in_halves
decreases-reply_in_halves g l = 2 * l.cuts

abbrev pub decreases-join+arg2 : goal.decreases-join+arg2
decreases-join+arg2 g l = 2 * l.left + 1

abbrev pub decreases-join+arg3 : goal.decreases-join+arg3
decreases-join+arg3 g l = 2 * l.left + 1
