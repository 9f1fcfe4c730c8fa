use Rattle.std.proofs.Common.{◌≡◌}
use Rattle.farm_lists_tests.proofs.between_threads.lanes.take_three.Given as goal

abbrev pub invariant-loop-wanted : goal.invariant-loop-wanted
invariant-loop-wanted g l = record { same : l.end.lane ≡ l.fn.end.lane }
