use Rattle.crossbeam_channel.specs.Claims.{view}
use Rattle.crossbeam_channel.specs.Ends.{sends_on, ruled_capacity}
use Rattle.farm_lanes.proofs.LaneKeeps.{pushes_as}
use Rattle.farm_lanes.proofs.lane.steps.send.Goals as goal

pub send_as-requires-clause-rule : goal.send_as-requires-clause-rule
send_as-requires-clause-rule g c =
    let inv = c.loop.invariant in (
      pushes_as (ruled_capacity (sends_on c.args.sends.now)) c.loop.pass.id (view c.loop.pass) c.loop.item
          (view c.args.pass.now) c.args.item inv.known inv.kept c.requires.mine c.requires.next c.requires.part,
      λ items views h at. tt,
    )
