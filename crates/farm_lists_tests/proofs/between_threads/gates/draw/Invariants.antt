use Rattle.std.proofs.Common.{◌≡◌}
use Rattle.farm_lists_tests.proofs.between_threads.gates.draw.Given as goal

abbrev pub invariant-loop : goal.invariant-loop
invariant-loop l = record { same : l.seat.gate ≡ l.fn.seat.gate }
