use Rattle.crossbeam_channel.specs.Claims.{view}
use Rattle.farm_lanes.proofs.LaneParts as lanes
use Rattle.farm_lanes.proofs.lane.steps.take_in.Goals as goal

pub absorb-requires-clause-rule : goal.absorb-requires-clause-rule
absorb-requires-clause-rule g c = lanes.joins c.args.pass.now.id (view c.args.pass.now) c.args.other.id (view c.args.other) c.requires.part
