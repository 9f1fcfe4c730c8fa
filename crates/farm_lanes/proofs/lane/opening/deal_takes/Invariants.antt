use Rattle.std.proofs.Common.{◌≡◌, ◌+◌, ◌-◌, ◌≤◌, length, []}
use Rattle.std.specs.Prelude.{All, vec_capacity}
use Rattle.crossbeam_channel.specs.Claims.{IsSeatAt, view}
use Rattle.crossbeam_channel.specs.Ends.{sends_on, receives_on}
use Rattle.farm_lanes.specs.LaneEnds.{AreNewTakeEnds}
use Rattle.farm_lanes.specs.LaneNames.{lane_on}
use Rattle.farm_lanes.specs.LaneRule.{end_record}
use Rattle.farm_lanes.proofs.lane.opening.deal_takes.Given as goal

abbrev pub invariant-loop-taker : goal.invariant-loop-taker
invariant-loop-taker g l = record {
  seated : IsSeatAt (sends_on l.sends) l.pass;
  rest : view l.pass ≡ end_record (l.putters + l.takers) (l.takers - l.taker) [] [];
  copies_left : length l.copies.items + l.taker ≡ l.takers;
  copies_same : All (λ s. receives_on s ≡ sends_on l.sends) l.copies.items;
  room : l.takers ≤ vec_capacity l.takes;
  made : AreNewTakeEnds (lane_on (sends_on l.sends) (l.putters + l.takers)) l.taker l.takes.items;
}
