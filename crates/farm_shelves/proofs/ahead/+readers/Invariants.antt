use Rattle.std.proofs.Common.{◌+◌, ◌*◌}
use Rattle.farm_shelves.proofs.ahead.+readers.Given as goal

abbrev pub decreases-join+arg3 : goal.decreases-join+arg3
decreases-join+arg3 g l = l.readers * 2

abbrev pub decreases-work_while_reading : goal.decreases-work_while_reading
decreases-work_while_reading g l = l.readers * 2 + 1
