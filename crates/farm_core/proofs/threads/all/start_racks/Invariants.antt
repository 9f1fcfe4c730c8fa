use Rattle.std.proofs.Common.{◌≡◌, ◌+◌, ◌≤◌, ◌++◌, false, vec_items, vec_len, vec_capacity}
use Rattle.std.specs.Option.{is_some}
use Rattle.std.specs.Vec.Iter.{into_iter_items, into_iter_len}
use Rattle.farm_core.specs.Ready.{rooms_of, started_of}
use Rattle.farm_core.proofs.threads.all.start_racks.Given as goal

-- where none was refused so far, what was started is of the racks that had their turn
abbrev pub invariant-loop-rack : goal.invariant-loop-rack
invariant-loop-rack g l =
    (into_iter_items l.initial.rack-iterator ≡ l.yielded ++ into_iter_items l.rack-iterator)
    × (is_some l.left ≡ false → started_of (vec_items l.started) ≡ rooms_of l.yielded)
    × (vec_len l.started + into_iter_len l.rack-iterator ≤ into_iter_len l.initial.rack-iterator)
    × (into_iter_len l.initial.rack-iterator ≤ vec_capacity l.started)
