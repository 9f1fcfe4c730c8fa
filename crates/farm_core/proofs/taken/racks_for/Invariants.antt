use Rattle.std.proofs.Common.{◌≡◌, ℕ, ◌+◌, ◌≤◌, ◌++◌, List, length, drop, vec_items, vec_len, vec_capacity}
use Rattle.std.specs.Vec.Iter.{into_iter_items, into_iter_len}
use mathlib.Core.Option.{some}
use lib.ListN.{get_elem?}
use Rattle.farm_orders.specs.declared.orders.Order.{Order}
use Rattle.farm_orders.specs.FedLists.{all_feeds_of}
use Rattle.farm_threads.specs.RunFeeds.{lists_of}
use Rattle.farm_core.specs.Ready.{Given, ends_given, rooms_of}
use Rattle.farm_threads.specs.Threads.{AreRackFeeders}
use Rattle.farm_core.proofs.taken.racks_for.Given as goal

-- the racks so far, and the ends that are left
abbrev pub invariant-loop-own : goal.invariant-loop-own
invariant-loop-own l =
    (into_iter_items l.initial.own-iterator ≡ l.yielded ++ into_iter_items l.own-iterator)
    × (vec_len l.racks + into_iter_len l.own-iterator ≡ length (lists_of l.lists))
    × (length (lists_of l.lists) ≤ vec_capacity l.racks)
    × (into_iter_items l.initial.puts ≡ ends_given (rooms_of (vec_items l.racks)) ++ into_iter_items l.puts)
    × (into_iter_len l.puts ≡ all_feeds_of (drop (vec_len l.racks) (lists_of l.lists)))
    × (length (ends_given (rooms_of (vec_items l.racks))) + into_iter_len l.puts ≡ into_iter_len l.initial.puts)
    × ((k : ℕ) (feeds : List (List Order)) (g : Given) → get_elem? (lists_of l.lists) k ≡ some feeds
    → get_elem? (rooms_of (vec_items l.racks)) k ≡ some g → AreRackFeeders g.0 k feeds g.1)
    × (length l.yielded ≡ vec_len l.racks)
