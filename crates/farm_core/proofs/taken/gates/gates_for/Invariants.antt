use Rattle.std.proofs.Common.{◌≡◌, ◌≤◌, ℕ, List, length, vec_items, vec_len, vec_capacity}
use mathlib.Core.Option.{some}
use lib.ListN.{get_elem?}
use Rattle.farm_lanes.specs.GateView.{GateName}
use Rattle.farm_orders.specs.declared.orders.Order.{Order}
use Rattle.farm_core.specs.declared.taken.gates.RackSeats.{RackSeats}
use Rattle.farm_core.specs.Ready.{IsNewGate}
use Rattle.farm_threads.specs.RunFeeds.{lists_of}
use Rattle.farm_core.proofs.taken.gates.gates_for.Given as goal

-- the gates so far are those of their racks
abbrev pub invariant-loop-rack : goal.invariant-loop-rack
invariant-loop-rack l =
    (vec_len l.gates ≡ l.rack)
    × (l.racks ≤ vec_capacity l.gates)
    × (vec_len l.all ≡ l.rack)
    × (l.racks ≤ vec_capacity l.all)
    × ((k : ℕ) (feeds : List (List Order)) (gate : GateName) (own : RackSeats) → get_elem? (lists_of l.lists) k ≡ some feeds
    → get_elem? (vec_items l.gates) k ≡ some gate → get_elem? (vec_items l.all) k ≡ some own → IsNewGate (length feeds) gate own)
