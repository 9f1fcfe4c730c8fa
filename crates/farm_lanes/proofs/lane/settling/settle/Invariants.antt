use Rattle.std.proofs.Common.{[]}
use Rattle.crossbeam_channel.specs.Claims.{IsSeatAt, view}
use Rattle.crossbeam_channel.specs.Ends.{sends_on}
use Rattle.farm_lanes.specs.LaneNames.{lane_on}
use Rattle.farm_lanes.proofs.Settles.{Gathering, LanesAre}
use Rattle.farm_lanes.proofs.lane.settling.settle.Given as goal

abbrev pub invariant-loop-end : goal.invariant-loop-end
invariant-loop-end g l = record {
  seated : IsSeatAt (sends_on l.sends) l.pass;
  lanes : LanesAre l.fn.ended.items l.fn.takers.items (lane_on (sends_on l.sends) (view l.pass).ends);
  gathering : Gathering l.fn.ended.items l.fn.takers.items l.ended.items l.fn.takers.items (view l.pass) l.put 0;
}

abbrev pub decreases-loop-end : goal.decreases-loop-end
decreases-loop-end g l = goal.left-loop-end g l

abbrev pub invariant-loop-end-2 : goal.invariant-loop-end-2
invariant-loop-end-2 g l = record {
  seated : IsSeatAt (sends_on l.sends) l.pass;
  lanes : LanesAre l.fn.ended.items l.fn.takers.items (lane_on (sends_on l.sends) (view l.pass).ends);
  gathering : Gathering l.fn.ended.items l.fn.takers.items [] l.takers.items (view l.pass) l.put l.taken;
}

abbrev pub decreases-loop-end-2 : goal.decreases-loop-end-2
decreases-loop-end-2 g l = goal.left-loop-end-2 g l
