use Rattle.std.proofs.Common.{◌≡◌}
use Rattle.crossbeam_channel.specs.Claims.{IsSeatAt, view}
use Rattle.crossbeam_channel.specs.Ends.{sends_on}
use Rattle.farm_lanes.proofs.lane.steps.send.Given as goal

abbrev pub invariant-loop : goal.invariant-loop
invariant-loop g l = record {
  seated : IsSeatAt (sends_on l.sends) l.pass;
  known : view l.pass ≡ view l.fn.pass;
  same : l.pass.id ≡ l.fn.pass.id;
  kept : l.item ≡ l.fn.item;
}
