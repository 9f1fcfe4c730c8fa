use Rattle.crossbeam_channel.specs.Claims.{view}
use Rattle.farm_lanes.proofs.LaneParts as lanes
use Rattle.farm_lanes.proofs.lane.steps.learn.Goals as goal

pub learn_as-requires-clause-rule : goal.learn_as-requires-clause-rule
learn_as-requires-clause-rule g c = lanes.shows c.args.pass.now.id (view c.args.pass.now)

pub returns : goal.returns
returns g c = let r = c.learn_as.ensures.rule in record {
  seated = c.learn_as.ensures.channel.0;
  whole = (r.0, r.1 c.requires.all.0 c.requires.all.1);
}
