use Rattle.std.proofs.Common.{◌≡◌, ◌++◌, take, map}
use Rattle.farm_reports.proofs.digests.push_outcomes.Given as goal

abbrev pub invariant-loop-index : goal.invariant-loop-index
invariant-loop-index l = map (λ o. o.now) l.outcomes.items ≡ map (λ o. o.now) l.fn.outcomes.items ++ map (λ a. a.1) (take l.index l.rack)
