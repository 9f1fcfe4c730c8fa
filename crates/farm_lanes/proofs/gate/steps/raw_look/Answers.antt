use Rattle.std.proofs.Common.{arith}
use Rattle.atomic_table.specs.Table.{step}
use mathlib.Core.Option.{none}
use Rattle.farm_lanes.proofs.GateKeeps.{looks}
use Rattle.farm_lanes.proofs.gate.steps.raw_look.Goals as goal

pub load-requires : goal.load-requires
load-requires g c =
    let size = c.requires.size in (
      c.requires.own.0,
      omega (arith, c.requires.own.1),
      rw size (looks g.Z.StepValues.size c.args.gate.now.table_id.slots c.args.seat.now.id c.args.seat.now.me
          (step c.args.gate.now.table_id.slots 0 0 0 none)),
    )
