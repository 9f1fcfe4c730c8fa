use Rattle.std.proofs.Common.{◌≡◌, take, map}
use Rattle.sha2.specs.Sha256.{sha256}
use Rattle.farm_reports.specs.Grains.{at_each}
use Rattle.farm_reports.proofs.grains.at_places.Given as goal

abbrev pub invariant-loop-index : goal.invariant-loop-index
invariant-loop-index l = map (λ f. sha256 f.now) l.chosen.items ≡ at_each (take l.index l.places) (map (λ f. sha256 f.now) l.fragments)
