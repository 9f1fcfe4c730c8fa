use Rattle.std.proofs.Common.{◌≡◌, ◌+◌, ◌≤◌, ◌++◌, true, vec_items, vec_len, vec_capacity}
use Rattle.std.specs.Vec.Iter.{into_iter_items, into_iter_len}
use Rattle.farm_threads.specs.Threads.{feeders_of}
use Rattle.farm_threads.proofs.feeder.start_feeders.Given as goal

-- where none was refused so far, the handles are of those that had their turn
abbrev pub invariant-loop-feeder : goal.invariant-loop-feeder
invariant-loop-feeder g l =
    (into_iter_items l.initial.feeder-iterator ≡ l.yielded ++ into_iter_items l.feeder-iterator)
    × (l.all ≡ true → feeders_of (vec_items l.handles) ≡ l.yielded)
    × (vec_len l.handles + into_iter_len l.feeder-iterator ≤ into_iter_len l.initial.feeder-iterator)
    × (into_iter_len l.initial.feeder-iterator ≤ vec_capacity l.handles)
    × (vec_capacity l.handles ≡ vec_capacity l.initial.handles)
