use Rattle.std.proofs.Common.{ℕ, List}
use Rattle.farm_reports.specs.Grains.{AreGrains, AreRight, at_each}
use Rattle.farm_reports.proofs.grains.place_grains.Given as goal

abbrev pub invariant-loop-index : goal.invariant-loop-index
invariant-loop-index l =
    (right : List (List ℕ)) → AreGrains (at_each l.places right) l.slots → AreRight right l.fn.digests → AreRight right l.digests
