use Rattle.std.proofs.Common.{◌≡◌, ◌+◌, ◌≤◌, ◌++◌, map, vec_items, vec_len, vec_capacity}
use Rattle.std.specs.Vec.Iter.{into_iter_items, into_iter_len}
use Rattle.list_members.specs.Lists.{Each}
use Rattle.farm_lanes.specs.LaneEnds.{LaneName, IsUnusedTake, new_take}
use Rattle.farm_threads.specs.declared.jobs.Job.{Job}
use Rattle.farm_threads.specs.declared.given.WorkerEnds.{WorkerEnds}
use Rattle.farm_core.proofs.taken.lanes.worker_ends.Given as goal

abbrev pub invariant-loop-replies : goal.invariant-loop-replies
invariant-loop-replies l =
    (into_iter_items l.initial.replies-iterator ≡ l.yielded ++ into_iter_items l.replies-iterator)
    × (map (λ (e : WorkerEnds). e.replies) (vec_items l.ends) ≡ l.yielded)
    × (vec_len l.takes ≡ into_iter_len l.replies-iterator)
    × Each IsUnusedTake (vec_items l.takes)
    × ((lane : LaneName Job) → Each (λ t. t ≡ new_take lane) (vec_items l.initial.takes) → Each (λ t. t ≡ new_take lane) (vec_items l.takes)
    × Each (λ (e : WorkerEnds). e.jobs ≡ new_take lane) (vec_items l.ends))
    × (vec_len l.ends + into_iter_len l.replies-iterator ≤ vec_capacity l.ends)
