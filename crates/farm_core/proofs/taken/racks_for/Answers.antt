use Rattle.std.proofs.Common.{rules, arith, ◌≡◌, ◌∙◌, ℕ, ◌+◌, ◌<◌, ◌++◌, ◌∷◌, List, [], length, map, drop, vec_len, refl, sym, ap, subst}
use Rattle.std.proofs.Common.{⊎_elim, append_assoc, length-append}
use Rattle.std.specs.Vec.Iter.{into_iter_items, into_iter_len}
use Rattle.std.proofs.lemmas.List.{length_push}
use mathlib.Core.Option.{some, some-ne-none, some-injective}
use lib.ListN.{get_elem?}
use Rattle.list_members.proofs.Lists.{at_back, at_snoc_or}
use Rattle.farm_lanes.specs.GateView.{GateName}
use Rattle.farm_lanes.specs.LaneEnds.{PutView, IsUnusedPut}
use Rattle.farm_threads.specs.declared.given.Feeder.{Feeder}
use Rattle.farm_threads.specs.declared.jobs.Job.{Job}
use Rattle.farm_orders.specs.declared.orders.Order.{Order}
use Rattle.farm_threads.specs.declared.rack_feeders.RackRoom.{RackRoom}
use Rattle.farm_core.specs.declared.taken.gates.RackSeats.{RackSeats}
use Rattle.farm_orders.specs.FedLists.{all_feeds_of}
use Rattle.farm_threads.specs.RunFeeds.{lists_of}
use Rattle.farm_core.specs.Ready.{Given, ends_given, rooms_of}
use Rattle.farm_threads.specs.Threads.{AreRackFeeders}
use Rattle.farm_orders.proofs.Members.{map_length}
use Rattle.farm_threads.proofs.Middles.{whole_front}
use Rattle.farm_core.proofs.Rooms.{mapped_snoc}
use Rattle.farm_core.proofs.RackEnds.{ends_snoc}
use Rattle.farm_core.proofs.RackRooms.{got, each_back, feeds_at, feeds_rest, feeds_past}
use Rattle.farm_core.proofs.taken.racks_for.Goals as goal

abbrev jobs_at : Feeder → PutView Job
jobs_at f = f.jobs

abbrev room_at : RackRoom → Given
room_at r = (r.gate.now, r.feeders.items)

pub loop-own-init : goal.loop-own-init
loop-own-init c =
    let gives = c.into_iter-own-iterator.ensures.into_iter_gives in
    let empty = c.requires.room.0 in
    let none : vec_len c.args.racks ≡ 0 = (let a = ap (λ (l : List RackRoom). length l) empty in let b = c.args.racks.ok in omega arith) in
    let here = ap (λ n. all_feeds_of (drop n (lists_of c.args.lists))) none in
    let puts_len = c.into_iter-puts.ensures.len in (
      refl,
      (let a = gives.1 in let b = c.args.seats.ok in let d = c.requires.gates.seats_count in omega arith),
      c.requires.room.1,
      ap (λ (l : List RackRoom). ends_given (rooms_of l) ++ into_iter_items c.into_iter-puts.result) (sym empty),
      puts_len ∙ (c.requires.count ∙ sym here),
      (let a = ap (λ (l : List RackRoom). length (ends_given (rooms_of l))) empty in omega arith),
      (λ k feeds g at_l at_g. absurd (some-ne-none g (sym
          (subst (λ (l : List RackRoom). get_elem? (rooms_of l) k ≡ some g) empty at_g)))),
      sym none,
    )

pub bounds-gates-rack : goal.bounds-gates-rack
bounds-gates-rack c = let was = c.loop-own.invariant.1 in let a = c.in-Some.ensures.steps.1 in let b = c.len-rack.ensures in
    let d = c.requires.gates.gates_count in omega arith

pub feeds-requires : goal.feeds-requires
feeds-requires c = let was = c.loop-own.invariant.1 in let a = c.in-Some.ensures.steps.1 in let b = c.len-rack.ensures in omega arith

pub rack_room-requires-clause-rack : goal.rack_room-requires-clause-rack
rack_room-requires-clause-rack c = let was = c.loop-own.invariant.1 in let a = c.in-Some.ensures.steps.1 in let b = c.len-rack.ensures in
    let d = c.requires.few in omega arith

pub rack_room-requires-clause-new : goal.rack_room-requires-clause-new
rack_room-requires-clause-new c =
    let was = c.loop-own.invariant in let done = c.loop-own.yielded in
    let a = c.in-Some.ensures.steps.1 in let b = c.len-rack.ensures in let d = was.1 in let e = c.requires.gates.gates_count in
    let all : c.args.seats.items ≡ done ++ c.in-Some.own ∷ into_iter_items c.next.new.self =
    sym c.into_iter-own-iterator.ensures.into_iter_gives.0 ∙ (was.0 ∙ ap (λ (t : List RackSeats). done ++ t) c.in-Some.ensures.steps.0) in
    c.requires.gates.each c.len-rack.result c.feeds.result.now c.index-gates-rack.result c.in-Some.own
    (feeds_at (lists_of c.args.lists) c.len-rack.result c.feeds.result.now (omega arith) c.feeds.ensures.all)
    (got c.args.gates.now c.len-rack.result c.index-gates-rack.result c.index-gates-rack.is (omega arith))
    (subst (λ (l : List RackSeats). get_elem? l c.len-rack.result ≡ some c.in-Some.own) (sym all)
    (at_back done (c.in-Some.own ∷ into_iter_items c.next.new.self) 0 c.in-Some.own refl c.len-rack.result
    (let f = was.7 in omega arith)))

pub rack_room-requires-clause-enough : goal.rack_room-requires-clause-enough
rack_room-requires-clause-enough c =
    let was = c.loop-own.invariant in let a = c.in-Some.ensures.steps.1 in let b = c.len-rack.ensures in let d = was.1 in
    let rest : all_feeds_of (drop c.len-rack.result (lists_of c.args.lists))
    ≡ length c.feeds.result.now + all_feeds_of (drop (c.len-rack.result + 1) (lists_of c.args.lists)) =
    feeds_rest (lists_of c.args.lists) c.len-rack.result c.feeds.result.now (omega arith) c.feeds.ensures.all in
    let here : into_iter_len c.loop-own.puts ≡ all_feeds_of (drop c.len-rack.result (lists_of c.args.lists)) =
    was.4 ∙ ap (λ k. all_feeds_of (drop k (lists_of c.args.lists))) (sym b) in
    omega arith

pub rack_room-requires-clause-unused : goal.rack_room-requires-clause-unused
rack_room-requires-clause-unused c =
    each_back IsUnusedPut c.args.puts.items (ends_given (rooms_of c.loop-own.racks.items)) (into_iter_items c.loop-own.puts)
    (sym c.into_iter-puts.ensures.rest ∙ c.loop-own.invariant.3) c.requires.unused

pub loop-own-preserved : goal.loop-own-preserved
loop-own-preserved c =
    let was = c.loop-own.invariant in let done = c.loop-own.yielded in let racks = c.loop-own.racks.items in
    let lists = lists_of c.args.lists in let n = c.len-rack.result in let feeds' = c.feeds.result.now in
    let r = c.rack_room.result in let says = c.rack_room.ensures in
    let new = c.push_reserved.new.self.items in let rest = into_iter_items c.rack_room.new.puts in
    let ends = ends_given (rooms_of racks) in let more = map jobs_at r.feeders.items in
    let steps = c.in-Some.ensures.steps.1 in let n_is = c.len-rack.ensures in let left = was.1 in
    let low : n < length lists = (omega arith) in
    let rooms_new : rooms_of new ≡ rooms_of racks ++ room_at r ∷ [] =
    mapped_snoc room_at racks new r (rooms_of racks) (room_at r) refl c.push_reserved.ensures.items refl in
    let ends_new : ends_given (rooms_of new) ≡ ends ++ more = ap ends_given rooms_new ∙ ends_snoc (rooms_of racks) (room_at r) in
    let pushed : vec_len c.push_reserved.new.self ≡ n + 1 = (let a = c.push_reserved.ensures.len in omega arith) in
    let given_left = says.left in (
      rw append_assoc (was.0 ∙ ap (λ (t : List RackSeats). done ++ t) c.in-Some.ensures.steps.0),
      (omega arith),
      search rules,
      was.3 ∙ (ap (λ (t : List (PutView Job)). ends ++ t) says.ends
          ∙ (sym (append_assoc ends more rest) ∙ ap (λ (l : List (PutView Job)). l ++ rest) (sym ends_new))),
      (let a : all_feeds_of (drop n lists) ≡ length feeds' + all_feeds_of (drop (n + 1) lists) =
          feeds_rest lists n feeds' low c.feeds.ensures.all in
          let b : into_iter_len c.loop-own.puts ≡ all_feeds_of (drop n lists) = was.4 ∙ ap (λ k. all_feeds_of (drop k lists)) (sym n_is) in
          let e : into_iter_len c.rack_room.new.puts ≡ all_feeds_of (drop (n + 1) lists) = (omega arith) in
          e ∙ ap (λ k. all_feeds_of (drop k lists)) (sym pushed)),
      (let a : length (ends_given (rooms_of new)) ≡ length ends + length more =
          ap (λ (l : List (PutView Job)). length l) ends_new ∙ length-append ends more in
          let b : length more ≡ length r.feeders.items = map_length jobs_at r.feeders.items in
          let d = says.feeders.count in let e = was.5 in omega arith),
      (λ k feeds g at_l at_g. ⊎_elim
          (λ old. was.6 k feeds g at_l old)
          (λ (now : (k ≡ length (rooms_of racks)) × (room_at r ≡ g)).
          let a : length (rooms_of racks) ≡ length racks = map_length room_at racks in let b = c.loop-own.racks.ok in
          let here : n ≡ k = (let d = now.0 in omega arith) in
          let same : feeds' ≡ feeds = some-injective _ _ (sym (feeds_at lists n feeds' low c.feeds.ensures.all)
          ∙ (ap (λ j. get_elem? lists j) here ∙ at_l)) in
          let mine : AreRackFeeders r.gate.now n feeds' r.feeders.items =
          subst (λ (q : GateName). AreRackFeeders q n feeds' r.feeders.items) (sym says.gate) says.feeders in
          let P : ℕ × List (List Order) × Given → Type 0 = λ p. AreRackFeeders p.2.0 p.0 p.1 p.2.1 in
          subst P (λ i. (here i, same i, now.1 i)) mine)
          (at_snoc_or (rooms_of racks) (room_at r) g k (subst (λ (l : List Given). get_elem? l k ≡ some g) rooms_new at_g))),
      length_push done c.in-Some.own ∙ (let a = was.7 in let b : length done + 1 ≡ vec_len c.push_reserved.new.self = (omega arith) in b),
    )

pub returns-clause-racks : goal.returns-clause-racks
returns-clause-racks c =
    let was = c.loop-own.invariant in record {
      count = (let a : length (rooms_of c.loop-own.racks.items) ≡ length c.loop-own.racks.items =
          map_length room_at c.loop-own.racks.items in let b = c.loop-own.racks.ok in let d = was.1 in
          let e = c.in-None.ensures.steps.0 in omega arith);
      each = was.6;
    }

pub returns-clause-ends : goal.returns-clause-ends
returns-clause-ends c =
    let was = c.loop-own.invariant in let ends = ends_given (rooms_of c.loop-own.racks.items) in
    let past = feeds_past (lists_of c.args.lists) (vec_len c.loop-own.racks)
    (let d = was.1 in let e = c.in-None.ensures.steps.0 in omega arith) in
    let rest_none : into_iter_len c.loop-own.puts ≡ 0 = was.4 ∙ past in
    whole_front c.args.puts.items ends (into_iter_items c.loop-own.puts) (sym c.into_iter-puts.ensures.rest ∙ was.3)
    (let a = was.5 in let b = c.into_iter-puts.ensures.len in let d = c.args.puts.ok in omega arith)
