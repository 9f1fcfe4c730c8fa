use Rattle.std.proofs.Common.{arith}
use Rattle.farm_lanes.proofs.GateKeeps.{joins}
use Rattle.farm_lanes.proofs.gate.steps.raw_join.Goals as goal

pub join_seat-requires : goal.join_seat-requires
join_seat-requires c = (
  c.requires.own.0,
  c.requires.own.1,
  c.requires.own.3,
  omega (arith, c.requires.own.2),
  joins c.args.gate.now.key c.args.seat.now.id c.args.seat.now.me.0 c.args.other.id c.args.other.me.0,
)
