use Rattle.std.proofs.Common.{◌≡◌, ◌+◌, ◌-◌, ◌≤◌, length, []}
use Rattle.std.specs.Prelude.{All, vec_capacity}
use Rattle.crossbeam_channel.specs.Claims.{IsSeatAt, view}
use Rattle.crossbeam_channel.specs.Ends.{sends_on}
use Rattle.farm_lanes.specs.LaneEnds.{AreNewPutEnds}
use Rattle.farm_lanes.specs.LaneNames.{lane_on}
use Rattle.farm_lanes.specs.LaneRule.{end_record, empty_lists}
use Rattle.farm_lanes.proofs.lane.opening.deal_puts.Given as goal

abbrev pub invariant-loop-sender : goal.invariant-loop-sender
invariant-loop-sender g l = record {
  seated : IsSeatAt (sends_on l.sends) l.pass;
  rest : view l.pass ≡ end_record (l.putters + l.takers) ((l.putters - l.sender) + l.takers)
      (empty_lists l.sender (l.putters - l.sender)) [];
  copies_left : length l.copies.items + l.sender ≡ l.putters;
  copies_same : All (λ s. sends_on s ≡ sends_on l.sends) l.copies.items;
  room : l.putters ≤ vec_capacity l.puts;
  made : AreNewPutEnds (lane_on (sends_on l.sends) (l.putters + l.takers)) l.sender l.puts.items;
}
