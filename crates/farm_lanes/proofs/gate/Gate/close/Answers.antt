use Rattle.std.proofs.Common.{rules}
use Rattle.farm_lanes.proofs.gate.Gate.close.Goals as goal

pub returns-clause-closed : goal.returns-clause-closed
returns-clause-closed g c = search rules
