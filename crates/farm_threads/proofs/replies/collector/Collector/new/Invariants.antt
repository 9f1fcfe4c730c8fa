use Rattle.std.proofs.Common.{◌≡◌, ◌≤◌, length, map, take, replicate, vec_items, vec_len, vec_capacity, None}
use Rattle.farm_orders.specs.Orders.{before_close}
use Rattle.farm_threads.proofs.replies.collector.Collector.new.Given as goal

abbrev pub invariant-loop-list : goal.invariant-loop-list
invariant-loop-list l =
    (vec_len l.rows ≡ l.list-index) × (length l.lists ≤ vec_capacity l.rows)
    × (vec_items l.rows ≡ map (λ orders. replicate (length (before_close orders)) None) (take l.list-index l.lists))
