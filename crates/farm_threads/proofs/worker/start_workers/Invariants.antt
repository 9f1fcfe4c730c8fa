use Rattle.std.proofs.Common.{◌≡◌, ◌+◌, ◌≤◌, ◌++◌, false, vec_items, vec_len, vec_capacity}
use Rattle.std.specs.Option.{is_some}
use Rattle.std.specs.Vec.Iter.{into_iter_items, into_iter_len}
use Rattle.farm_threads.specs.Threads.{ends_of}
use Rattle.farm_threads.proofs.worker.start_workers.Given as goal

-- where none was refused so far, the handles are of those that had their turn
abbrev pub invariant-loop-end : goal.invariant-loop-end
invariant-loop-end g l =
    (into_iter_items l.initial.end-iterator ≡ l.yielded ++ into_iter_items l.end-iterator)
    × (is_some l.left ≡ false → ends_of (vec_items l.handles) ≡ l.yielded)
    × (vec_len l.handles + into_iter_len l.end-iterator ≤ into_iter_len l.initial.end-iterator)
    × (into_iter_len l.initial.end-iterator ≤ vec_capacity l.handles)
    × (vec_capacity l.handles ≡ vec_capacity l.initial.handles)
