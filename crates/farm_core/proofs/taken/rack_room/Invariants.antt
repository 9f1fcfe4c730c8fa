use Rattle.std.proofs.Common.{◌≡◌, ◌+◌, ◌/◌, ◌≤◌, ◌++◌, map, vec_items, vec_len, vec_capacity}
use Rattle.std.specs.Vec.Iter.{into_iter_items, into_iter_len}
use mathlib.Core.Option.{some}
use lib.ListN.{get_elem?}
use Rattle.farm_lanes.specs.GateView.{opened}
use Rattle.list_members.specs.Lists.{Each, EachAt}
use Rattle.farm_threads.specs.declared.given.Feeder.{Feeder}
use Rattle.farm_core.proofs.taken.rack_room.Given as goal

-- the feeders so far, and what is left of the ends, the seats and the rights
abbrev pub invariant-loop-feed : goal.invariant-loop-feed
invariant-loop-feed l =
    (into_iter_items l.initial.puts ≡ map (λ (f : Feeder). f.jobs) (vec_items l.feeders) ++ into_iter_items l.puts)
    × (into_iter_len l.puts + l.feed ≡ into_iter_len l.initial.puts)
    × (vec_len l.feeders ≡ l.feed)
    × (l.count ≤ vec_capacity l.feeders)
    × (vec_len l.seats + l.feed ≡ l.count)
    × Each (λ s. s ≡ opened l.gate.id (4294967296 / l.count)) (vec_items l.seats)
    × (vec_len l.rights + l.feed ≡ l.count)
    × Each (λ r. r ≡ l.gate.id) (vec_items l.rights)
    × Each (λ (f : Feeder). f.seat.has.share ≡ 4294967296 / l.count) (vec_items l.feeders)
    × EachAt (λ k (f : Feeder). (f.rack ≡ l.rack) × (f.feed ≡ k) × (get_elem? l.lists k ≡ some f.list.now) × (f.gate.now ≡ l.gate))
    (vec_items l.feeders)
