use Rattle.std.proofs.Common.{◌≡◌, ◌+◌, ◌≤◌, ◌++◌, vec_items, vec_len, vec_capacity}
use Rattle.std.specs.Vec.Iter.{into_iter_items, into_iter_len}
use Rattle.farm_threads.specs.Threads.{WorkersJoined}
use Rattle.farm_threads.proofs.worker.join_workers.Given as goal

-- the ends of those that were joined so far
abbrev pub invariant-loop-handle : goal.invariant-loop-handle
invariant-loop-handle g l =
    (into_iter_items l.initial.handle-iterator ≡ l.yielded ++ into_iter_items l.handle-iterator)
    × WorkersJoined l.yielded (vec_items l.job_ends) (vec_items l.reply_ends)
    × (vec_len l.job_ends + into_iter_len l.handle-iterator ≤ vec_capacity l.job_ends)
    × (vec_len l.reply_ends + into_iter_len l.handle-iterator ≤ vec_capacity l.reply_ends)
