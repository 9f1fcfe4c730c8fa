use Rattle.std.proofs.Common.{◌≡◌, take, map, flat_map}
use Rattle.farm_reports.proofs.digests.outcomes_of_racks.Given as goal

abbrev pub invariant-loop-rack : goal.invariant-loop-rack
invariant-loop-rack l = map (λ o. o.now) l.outcomes.items ≡ flat_map (λ rack. map (λ a. a.1) rack.items) (take l.rack-index l.racks)
