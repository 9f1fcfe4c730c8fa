use Rattle.crossbeam_channel.specs.Claims.{view}
use Rattle.farm_lanes.proofs.LaneKeeps.{pops_as}
use Rattle.farm_lanes.proofs.lane.steps.receive.Goals as goal

pub recv_as-requires-clause-rule : goal.recv_as-requires-clause-rule
recv_as-requires-clause-rule g c = (
  pops_as c.loop.pass.id (view c.loop.pass)
      (view c.args.pass.now) c.loop.invariant.known c.requires.part,
  λ items views h at. tt,
)
