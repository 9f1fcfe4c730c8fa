use Rattle.std.proofs.Common.{◌<◌, ℕ, None, map, get_or}
use Rattle.std.specs.Prelude.{IfSome}
use Rattle.sha2.specs.Sha256.{sha256}
use Rattle.farm_reports.specs.Grains.{IsGrain}
use Rattle.farm_reports.proofs.grains.fill.Given as goal

abbrev pub invariant-loop-index : goal.invariant-loop-index
invariant-loop-index l = (k : ℕ) → k < l.index → IfSome (get_or l.slots k None) (IsGrain (map (λ f. sha256 f.now) l.fragments))
