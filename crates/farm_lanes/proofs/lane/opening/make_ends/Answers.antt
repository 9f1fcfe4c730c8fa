use Rattle.std.proofs.Common.{◌+◌, refl, ◌∙◌}
use Rattle.crossbeam_channel.specs.Ends.{sends_on}
use Rattle.farm_lanes.specs.LaneNames.{lane_on}
use Rattle.farm_lanes.proofs.lane.opening.make_ends.Goals as goal

pub deal_puts-puts-requires-clause-seated : goal.deal_puts-puts-requires-clause-seated
deal_puts-puts-requires-clause-seated g c = c.name_ends.ensures.seated

pub deal_puts-puts-requires-clause-named : goal.deal_puts-puts-requires-clause-named
deal_puts-puts-requires-clause-named g c = c.name_ends.ensures.named

pub deal_puts-puts-requires-clause-copies : goal.deal_puts-puts-requires-clause-copies
deal_puts-puts-requires-clause-copies g c = c.in_ok-send_list.ensures

pub deal_takes-takes-requires-clause-seated : goal.deal_takes-takes-requires-clause-seated
deal_takes-takes-requires-clause-seated g c = c.deal_puts-puts.ensures.seated

pub deal_takes-takes-requires-clause-named : goal.deal_takes-takes-requires-clause-named
deal_takes-takes-requires-clause-named g c = c.deal_puts-puts.ensures.rest

pub deal_takes-takes-requires-clause-copies : goal.deal_takes-takes-requires-clause-copies
deal_takes-takes-requires-clause-copies g c = let copied = c.in_ok-take_list.ensures in
    (copied.0, λ k d lt. copied.1 k d lt ∙ c.requires.queue)

pub returns : goal.returns
returns g c = record {
  lane = lane_on (sends_on c.args.sends.now) (c.args.putters + c.args.takers);
  ends = refl;
  put_ends = c.deal_puts-puts.ensures.puts;
  take_ends = c.deal_takes-takes.ensures.takes;
}
