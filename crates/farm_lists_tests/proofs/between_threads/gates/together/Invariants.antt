use Rattle.std.proofs.Common.{◌≡◌, All}
use Rattle.farm_lists_tests.proofs.between_threads.gates.together.Given as goal

abbrev pub invariant-loop-seat : goal.invariant-loop-seat
invariant-loop-seat g l = record { own : l.all.gate ≡ l.gate.id; rest : All (λ s. s.gate ≡ l.gate.id) l.seats.items }

abbrev pub decreases-loop-seat : goal.decreases-loop-seat
decreases-loop-seat g l = goal.left-loop-seat g l
