use Rattle.std.proofs.Common.{arith}
use Rattle.atomic_table.specs.Table.{step}
use mathlib.Core.Option.{none}
use Rattle.farm_lanes.proofs.GateKeeps.{closes}
use Rattle.farm_lanes.proofs.gate.steps.raw_close.Goals as goal

pub fetch_or-requires : goal.fetch_or-requires
fetch_or-requires g c =
    let size = c.requires.size in (
      c.requires.own.0,
      omega (arith, c.requires.own.1),
      rw size (closes g.Z.StepValues.size c.args.gate.now.table_id.slots c.args.seat.now.id c.args.seat.now.me
          (step c.args.gate.now.table_id.slots 0 9223372036854775808 0 none) c.requires.right),
    )
