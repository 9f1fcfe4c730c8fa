use Rattle.std.proofs.Common.{◌∙◌, ap}
use Rattle.farm_lanes.specs.declared.lane.item.Item.TheVariants.{Value, End}
use Rattle.farm_lanes.specs.LaneEnds.{with_taken}
use Rattle.farm_core.proofs.Clears.{cleared_next, nothing_more}
use Rattle.farm_core.proofs.threads.collecting.clear.Goals as goal

pub loop-preserved-in-Value : goal.loop-preserved-in-Value
loop-preserved-in-Value g c =
    cleared_next c.args.desk.board.racks c.args.desk.replies c.loop.replies c.take.new.self c.loop.board c.hand_in-fault.new.board
    c.loop.fault c.hand_in-fault.result (Value c.in-Value.sender c.in-Value.number c.in-Value.value)
    c.loop.invariant (c.take.ensures.taken ∙ ap (with_taken c.loop.replies) c.in-Value.is) c.hand_in-fault.ensures

pub loop-preserved : goal.loop-preserved
loop-preserved g c =
    cleared_next c.args.desk.board.racks c.args.desk.replies c.loop.replies c.take.new.self c.loop.board c.loop.board c.loop.fault
    c.loop.fault (End c.in-End.sender c.in-End.number)
    c.loop.invariant (c.take.ensures.taken ∙ ap (with_taken c.loop.replies) c.in-End.is) (nothing_more c.loop.board c.loop.fault)
