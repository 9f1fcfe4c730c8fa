use Rattle.std.proofs.Common.{◌≡◌, ◌+◌, ◌≤◌, ◌++◌, List, length, map, vec_items, vec_len, vec_capacity}
use Rattle.std.specs.Vec.Iter.{into_iter_items, into_iter_len}
use Rattle.farm_lanes.specs.declared.gate.record.SeatRecord.{SeatRecord}
use Rattle.farm_lanes.specs.GateRecord.{IsSound}
use Rattle.farm_threads.specs.declared.feeder.Fed.{Fed}
use Rattle.farm_threads.specs.Feed.{IsJoint}
use Rattle.farm_core.proofs.Joints.{rights_of}
use Rattle.farm_core.proofs.threads.closing.close_rack.Given as goal

-- the seats so far became one, their ends are in order, and the rights that came back are kept
abbrev pub invariant-loop-fed : goal.invariant-loop-fed
invariant-loop-fed l =
    (into_iter_items l.initial.fed-iterator ≡ l.yielded ++ into_iter_items l.fed-iterator)
    × (l.joined.gate ≡ l.gate.id)
    × ((parts : List SeatRecord) → IsJoint l.initial.joined.has parts
    → IsJoint l.joined.has (parts ++ map (λ (f : Fed). f.seat.has) l.yielded))
    × IsSound l.gate.size l.joined.has
    × (vec_items l.put_ends ≡ vec_items l.initial.put_ends ++ map (λ (f : Fed). f.jobs) l.yielded)
    × (vec_items l.rights ≡ rights_of l.yielded)
    × (vec_len l.rights + into_iter_len l.fed-iterator + 1 ≤ vec_capacity l.rights)
    × (vec_len l.put_ends + into_iter_len l.fed-iterator + 1 ≤ vec_capacity l.put_ends)
    × ((vec_capacity l.put_ends ≡ vec_capacity l.initial.put_ends)
    × (vec_len l.put_ends + into_iter_len l.fed-iterator ≡ vec_len l.initial.put_ends + into_iter_len l.initial.fed-iterator))
    × (length l.yielded + into_iter_len l.fed-iterator ≡ into_iter_len l.initial.fed-iterator)
