use Rattle.std.proofs.Common.{arith}
use Rattle.farm_reading.proofs.Pieces.{front_is, whole_is}
use Rattle.farm_reading.proofs.cutting.list_through_close.Goals as goal

pub returns-then-count-list : goal.returns-then-count-list
returns-then-count-list c = front_is c.args.list.now _ (omega (arith, c.count_requests-count.ensures))

pub returns-else-count-list : goal.returns-else-count-list
returns-else-count-list c = whole_is c.args.list.now (omega (arith, c.count_requests-count.ensures))
