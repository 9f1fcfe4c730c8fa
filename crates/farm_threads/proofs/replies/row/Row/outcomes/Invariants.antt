use Rattle.std.proofs.Common.{◌≡◌, ◌+◌, ◌≤◌, ◌++◌, vec_items, vec_len, vec_capacity}
use Rattle.std.specs.List.{AllZip}
use Rattle.std.specs.Vec.Iter.{into_iter_items, into_iter_len}
use Rattle.farm_threads.specs.Replies.{Answers, entries}
use Rattle.farm_threads.proofs.replies.row.Row.outcomes.Given as goal

abbrev pub invariant-loop-cell : goal.invariant-loop-cell
invariant-loop-cell l =
    (into_iter_items l.initial.cell-iterator ≡ l.yielded ++ into_iter_items l.cell-iterator)
    × AllZip Answers (entries l.yielded) (vec_items l.all)
    × (vec_len l.all + into_iter_len l.cell-iterator ≡ into_iter_len l.initial.cell-iterator)
    × (into_iter_len l.initial.cell-iterator ≤ vec_capacity l.all)
