use Rattle.std.proofs.Common.{◌≡◌}
use Rattle.farm_core.specs.Replies.{IsInPlace}
use Rattle.farm_tests.proofs.farm.collecting.gathered.Given as goal

abbrev pub invariant-loop-number : goal.invariant-loop-number
invariant-loop-number g l = IsInPlace l.collector × (l.collector.racks ≡ l.racks)
