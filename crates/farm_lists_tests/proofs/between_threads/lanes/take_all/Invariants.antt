use Rattle.std.proofs.Common.{◌≡◌}
use Rattle.farm_lists_tests.proofs.between_threads.lanes.take_all.Given as goal

abbrev pub invariant-loop : goal.invariant-loop
invariant-loop g l = record { same : l.end.lane ≡ l.fn.end.lane }
