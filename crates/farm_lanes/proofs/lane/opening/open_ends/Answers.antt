use Rattle.farm_lanes.proofs.LaneParts.{begins}
use Rattle.farm_lanes.proofs.lane.opening.open_ends.Goals as goal

pub bounded_with-requires-clause-rule : goal.bounded_with-requires-clause-rule
bounded_with-requires-clause-rule g c = begins
