use Rattle.std.proofs.Common.{◌≡◌, ◌++◌, ◌+◌, length, true}
use Rattle.std.specs.Vec.Iter.{into_iter_items, into_iter_len}
use Rattle.farm_lanes.specs.GateRecord.{IsSound}
use Rattle.farm_core.proofs.Joints.{IsSpending}
use Rattle.farm_core.proofs.threads.closing.spend_all.Given as goal

-- a seat that knew a closing made no close
abbrev pub invariant-loop-right : goal.invariant-loop-right
invariant-loop-right l =
    (into_iter_items l.initial.right-iterator ≡ l.yielded ++ into_iter_items l.right-iterator)
    × (l.seat.gate ≡ l.gate.id)
    × IsSound l.gate.size l.seat.has
    × (l.initial.seat.has.knows ≡ true → IsSpending l.gate.size l.initial.seat.has l.seat.has (length l.yielded))
    × (length l.yielded + into_iter_len l.right-iterator ≡ into_iter_len l.initial.right-iterator)
