use Rattle.std.proofs.Common.{arith}
use Rattle.atomic_table.specs.Table.{step}
use mathlib.Core.Option.{none}
use Rattle.farm_lanes.proofs.GateKeeps.{draws}
use Rattle.farm_lanes.proofs.gate.steps.raw_draw.Goals as goal

pub fetch_add-requires : goal.fetch_add-requires
fetch_add-requires g c =
    let size = c.requires.size in (
      c.requires.own.0,
      omega (arith, c.requires.own.1),
      rw size (draws g.Z.StepValues.size c.args.gate.now.table_id.slots c.args.seat.now.id c.args.seat.now.me
          (step c.args.gate.now.table_id.slots 0 1 0 none) c.requires.budget),
    )
