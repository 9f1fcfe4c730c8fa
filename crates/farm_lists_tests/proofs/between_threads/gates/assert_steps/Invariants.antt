use Rattle.std.proofs.Common.{◌≡◌, All}
use Rattle.farm_lists_tests.proofs.between_threads.gates.assert_steps.Given as goal

abbrev pub invariant-loop-number : goal.invariant-loop-number
invariant-loop-number g l = record { seat : l.seat.gate ≡ l.gate.id; rights : All (λ r. r ≡ l.gate.id) l.rights.items }
