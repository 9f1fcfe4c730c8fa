use Rattle.std.proofs.Common.{◌≡◌, ◌+◌, ◌≤◌, ◌++◌, ℕ, map, vec_items, vec_len, vec_capacity, Vec, Global}
use Rattle.std.specs.List.{AllZip}
use Rattle.std.specs.Vec.Iter.{into_iter_items, into_iter_len}
use Rattle.lrc_code.specs.declared.outcomes.Outcome.{Outcome}
use Rattle.farm_threads.proofs.replies.board.without_feeds.Given as goal

abbrev pub invariant-loop-row : goal.invariant-loop-row
invariant-loop-row l =
    (into_iter_items l.initial.row-iterator ≡ l.yielded ++ into_iter_items l.row-iterator)
    × AllZip (λ (row : Vec (ℕ × Outcome) Global) (answers : Vec Outcome Global).
    vec_items answers ≡ map (λ (answer : ℕ × Outcome). answer.1) (vec_items row)) l.yielded (vec_items l.all)
    × (vec_len l.all + into_iter_len l.row-iterator ≡ into_iter_len l.initial.row-iterator)
    × (into_iter_len l.initial.row-iterator ≤ vec_capacity l.all)
