use Rattle.std.proofs.Common.{◌≡◌, ◌+◌, ◌≤◌, ◌++◌, vec_items, vec_len, vec_capacity}
use Rattle.std.specs.List.{AllZip}
use Rattle.std.specs.Vec.Iter.{into_iter_items, into_iter_len}
use Rattle.farm_threads.specs.Boards.{filled, IsOutcomeOf}
use Rattle.farm_threads.proofs.replies.board.all_by_feed.Given as goal

abbrev pub invariant-loop-row : goal.invariant-loop-row
invariant-loop-row l =
    (into_iter_items l.initial.row-iterator ≡ l.yielded ++ into_iter_items l.row-iterator)
    × AllZip (λ row answers. AllZip IsOutcomeOf (filled row) (vec_items answers)) l.yielded (vec_items l.all)
    × (vec_len l.all + into_iter_len l.row-iterator ≡ into_iter_len l.initial.row-iterator)
    × (into_iter_len l.initial.row-iterator ≤ vec_capacity l.all)
