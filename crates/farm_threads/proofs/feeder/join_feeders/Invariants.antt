use Rattle.std.proofs.Common.{◌≡◌, ◌+◌, ◌≤◌, ◌++◌, true, vec_items, vec_len, vec_capacity}
use Rattle.std.specs.Vec.Iter.{into_iter_items, into_iter_len}
use Rattle.farm_threads.specs.Threads.{FeedersJoined}
use Rattle.farm_threads.proofs.feeder.join_feeders.Given as goal

-- what those left that were joined so far
abbrev pub invariant-loop-handle : goal.invariant-loop-handle
invariant-loop-handle g l =
    (into_iter_items l.initial.handle-iterator ≡ l.yielded ++ into_iter_items l.handle-iterator)
    × (l.all ≡ true → FeedersJoined l.yielded (vec_items l.given_back))
    × (vec_len l.given_back + into_iter_len l.handle-iterator ≤ vec_capacity l.given_back)
