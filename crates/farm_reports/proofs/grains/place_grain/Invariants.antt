use Rattle.std.proofs.Common.{ℕ, List}
use Rattle.farm_reports.specs.Grains.{AreRight, IsGrain, at_each}
use Rattle.farm_reports.proofs.grains.place_grain.Given as goal

abbrev pub invariant-loop-k : goal.invariant-loop-k
invariant-loop-k l =
    (right : List (List ℕ)) → IsGrain (at_each l.places right) l.grain → AreRight right l.fn.digests → AreRight right l.digests
