use Rattle.crossbeam_channel.specs.Claims.{view}
use Rattle.farm_lanes.proofs.LaneParts as lanes
use Rattle.farm_lanes.proofs.lane.steps.cut_take.Goals as goal

pub another-requires-clause-rule : goal.another-requires-clause-rule
another-requires-clause-rule g c = lanes.cut_take c.args.pass.now.id
    (view c.args.pass.now) c.requires.more c.requires.empty.0 c.requires.empty.1
