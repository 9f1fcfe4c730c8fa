use Rattle.std.proofs.Common.{◌≡◌, ◌+◌, ◌≤◌, ◌++◌, vec_items, vec_len, vec_capacity}
use Rattle.std.specs.List.{AllZip}
use Rattle.std.specs.Vec.Iter.{into_iter_items, into_iter_len}
use Rattle.farm_threads.specs.Replies.{Answers}
use Rattle.farm_threads.proofs.replies.collector.all_outcomes.Given as goal

abbrev pub invariant-loop-row : goal.invariant-loop-row
invariant-loop-row l =
    (into_iter_items l.initial.row-iterator ≡ l.yielded ++ into_iter_items l.row-iterator)
    × AllZip (λ row answers. AllZip Answers row (vec_items answers)) l.yielded (vec_items l.all)
    × (vec_len l.all + into_iter_len l.row-iterator ≡ into_iter_len l.initial.row-iterator)
    × (into_iter_len l.initial.row-iterator ≤ vec_capacity l.all)
