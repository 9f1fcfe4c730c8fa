use Rattle.std.proofs.Common.{arith}
use Rattle.farm_lanes.proofs.GateKeeps.{cuts}
use Rattle.farm_lanes.proofs.gate.steps.raw_cut.Goals as goal

pub split_seat-requires : goal.split_seat-requires
split_seat-requires g c =
    let share = c.requires.values.0 in
    let held = c.requires.values.1 in (
      c.requires.own.0,
      omega (arith, c.requires.own.1),
      cuts c.args.gate.now.key c.args.seat.now.id c.args.seat.now.me.0 g.Z.StepValues.share g.Z.StepValues.held
          (omega (arith, share, c.requires.part.0)) (omega (arith, held, c.requires.part.1)),
    )
