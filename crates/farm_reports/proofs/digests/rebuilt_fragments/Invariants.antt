use Rattle.std.proofs.Common.{◌≡◌, take, map, flat_map}
use Rattle.farm_reports.specs.Report.{rebuilt_fragment}
use Rattle.farm_reports.proofs.digests.rebuilt_fragments.Given as goal

abbrev pub invariant-loop-index : goal.invariant-loop-index
invariant-loop-index l = map (λ f. f.now) l.fragments.items ≡ flat_map (λ o. rebuilt_fragment o.now) (take l.index l.outcomes)
