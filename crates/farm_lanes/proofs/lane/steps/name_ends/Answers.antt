use Rattle.std.proofs.Common.{arith}
use Rattle.crossbeam_channel.specs.Claims.{view}
use Rattle.farm_lanes.proofs.LaneParts.{begins_as}
use Rattle.farm_lanes.proofs.lane.steps.name_ends.Goals as goal

pub another-none-requires-clause-rule : goal.another-none-requires-clause-rule
another-none-requires-clause-rule g c = begins_as c.args.pass.now.id g.Z.EndCounts.ends g.Z.EndCounts.putters
    (view c.args.pass.now) c.requires.first (omega (arith, c.requires.counts.0, c.requires.counts.2))
