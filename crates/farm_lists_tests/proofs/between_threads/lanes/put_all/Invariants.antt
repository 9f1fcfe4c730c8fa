use Rattle.std.proofs.Common.{◌≡◌}
use Rattle.farm_lists_tests.proofs.between_threads.lanes.put_all.Given as goal

abbrev pub invariant-loop-number : goal.invariant-loop-number
invariant-loop-number g l = record { lane : l.end.lane ≡ l.fn.end.lane; sender : l.end.sender ≡ l.fn.end.sender }
