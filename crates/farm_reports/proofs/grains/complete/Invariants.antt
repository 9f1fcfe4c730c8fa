use Rattle.std.proofs.Common.{◌≡◌, take, map}
use Rattle.sha2.specs.Sha256.{sha256}
use Rattle.farm_reports.proofs.grains.complete.Given as goal

abbrev pub invariant-loop-index : goal.invariant-loop-index
invariant-loop-index l = l.all.items ≡ map (λ f. sha256 f.now) (take l.index l.fragments)
