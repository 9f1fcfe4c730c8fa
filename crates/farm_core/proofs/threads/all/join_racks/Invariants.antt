use Rattle.std.proofs.Common.{◌≡◌, ◌+◌, ◌*◌, ◌≤◌, ◌++◌, true, vec_items, vec_len, vec_capacity}
use Rattle.std.specs.Vec.Iter.{into_iter_items, into_iter_len}
use Rattle.farm_core.specs.Ready.{HavePutRacks, AreEndsOf, all_given, started_of}
use Rattle.farm_core.proofs.threads.all.join_racks.Given as goal

-- the ends of the racks that were joined so far
abbrev pub invariant-loop-rack : goal.invariant-loop-rack
invariant-loop-rack g l =
    (into_iter_items l.initial.rack-iterator ≡ l.yielded ++ into_iter_items l.rack-iterator)
    × (l.all ≡ true → HavePutRacks l.yielded (vec_items l.put_ends))
    × (l.all ≡ true → AreEndsOf (all_given (started_of l.yielded)) (vec_items l.put_ends))
    × (vec_len l.put_ends + into_iter_len l.rack-iterator * 4 ≤ vec_capacity l.put_ends)
    × (vec_capacity l.put_ends ≡ vec_capacity l.initial.put_ends)
    × (vec_len l.put_ends + into_iter_len l.rack-iterator * 4 ≤ into_iter_len l.initial.rack-iterator * 4)
