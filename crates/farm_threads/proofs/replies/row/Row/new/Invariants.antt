use Rattle.std.proofs.Common.{◌≡◌, ◌≤◌, vec_len, vec_items, vec_capacity, replicate, None}
use Rattle.farm_threads.proofs.replies.row.Row.new.Given as goal

abbrev pub invariant-loop : goal.invariant-loop
invariant-loop l = (vec_items l.cells ≡ replicate l.counter None) × (vec_len l.cells ≡ l.counter) × (l.count ≤ vec_capacity l.cells)
