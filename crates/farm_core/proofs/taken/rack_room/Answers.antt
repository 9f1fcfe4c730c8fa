use Rattle.std.proofs.Common.{rules, arith, ◌≡◌, ◌∙◌, ◌*◌, ◌/◌, ◌++◌, ◌∷◌, List, [], length, map, vec_len, refl, sym, ap, subst}
use Rattle.std.proofs.Common.{append_assoc}
use Rattle.std.specs.Vec.Iter.{into_iter_items}
use Rattle.std.proofs.lemmas.List.{length-replicate}
use mathlib.Core.Option.{some, some-ne-none}
use lib.ListN.{get_elem?}
use Rattle.list_members.proofs.Lists.{each_snoc}
use Rattle.farm_lanes.specs.declared.gate.record.GateSize.{GateSize}
use Rattle.farm_lanes.specs.GateView.{SeatView, opened, GateId}
use Rattle.farm_lanes.specs.LaneEnds.{PutView, IsUnusedPut}
use Rattle.list_members.specs.Lists.{Each, EachAt}
use Rattle.farm_threads.specs.declared.given.Feeder.{Feeder}
use Rattle.farm_threads.specs.declared.jobs.Job.{Job}
use Rattle.farm_core.proofs.Rooms.{each_last, each_rest, each_middle, each_at_snoc, mapped_snoc}
use Rattle.farm_core.proofs.RackRooms.{each_replicate, got, share_enough, sum_same}
use Rattle.farm_core.proofs.taken.rack_room.Goals as goal

abbrev jobs_at : Feeder → PutView Job
jobs_at f = f.jobs

pub loop-feed-init : goal.loop-feed-init
loop-feed-init c =
    let own = c.requires.new in
    let seats_long = ap (λ (l : List SeatView). length l) own.seats in
    let seats_count = length-replicate (length c.args.lists.now) (opened c.args.gate.now.id (4294967296 / length c.args.lists.now)) in
    let seats_ok = c.args.own.seats.ok in
    let rights_long = ap (λ (l : List GateId). length l) own.rights in
    let rights_count = length-replicate (length c.args.lists.now) c.args.gate.now.id in let rights_ok = c.args.own.rights.ok in (
      ap (λ (l : List Feeder). map jobs_at l ++ into_iter_items c.args.puts.now) (sym c.args.own.space.given.0),
      search rules,
      search rules,
      search rules,
      omega arith,
      each_replicate (λ (s : SeatView). s ≡ opened c.args.gate.now.id (4294967296 / length c.args.lists.now)) c.args.own.seats.items
          (length c.args.lists.now) (opened c.args.gate.now.id (4294967296 / length c.args.lists.now)) own.seats refl,
      omega arith,
      each_replicate (λ (r : GateId). r ≡ c.args.gate.now.id) c.args.own.rights.items
          (length c.args.lists.now) c.args.gate.now.id own.rights refl,
      (λ k f at. absurd (some-ne-none f (sym (subst (λ (l : List Feeder). get_elem? l k ≡ some f) c.args.own.space.given.0 at)))),
      (λ k f at. absurd (some-ne-none f (sym (subst (λ (l : List Feeder). get_elem? l k ≡ some f) c.args.own.space.given.0 at)))),
    )

pub invariant_of-push_reserved : goal.invariant_of-push_reserved
invariant_of-push_reserved c =
    let was = c.loop-feed.invariant in
    let seat_is = each_last (λ (s : SeatView). s ≡ opened c.args.gate.now.id
    (4294967296 / length c.args.lists.now)) c.loop-feed.seats.items c.pop.new.self.items c.in-Some.seat c.in-Some.ensures.items was.5 in
    let right_is = each_last (λ (r : GateId). r ≡ c.args.gate.now.id) c.loop-feed.rights.items c.pop-in-loop-feed.new.self.items
    c.in-Some-pop.right c.in-Some-pop.ensures.items was.7 in
    record {
      own = (ap (λ (s : SeatView). s.gate) seat_is, right_is);
      fresh = (ap (λ (s : SeatView). s.has.numbers) seat_is, ap (λ (s : SeatView). s.has.knows) seat_is);
      budget = let a = ap (λ (s : SeatView). s.has.draws) seat_is in let b = ap (λ (s : SeatView). s.has.share) seat_is in
          let d = share_enough (length c.args.lists.now) c.requires.few.0 c.requires.few.1 in omega arith;
      unused = each_middle IsUnusedPut (into_iter_items c.args.puts.now) (map jobs_at c.loop-feed.feeders.items) _ c.in-Some-next.jobs
          (was.0 ∙ ap (λ (t : List (PutView Job)). map jobs_at c.loop-feed.feeders.items
          ++ t) c.in-Some-next.ensures.cases.0) c.requires.unused;
      few = (
        c.requires.rack,
        (let a = c.loop-feed-test.true in let b = c.requires.few.1 in
            let d = c.loop-feed.invariant.4 in omega arith),
      );
      unclosed = (ap (λ (s : SeatView). s.has.used) seat_is, ap (λ (s : SeatView). s.has.made) seat_is);
    }

pub loop-feed-preserved : goal.loop-feed-preserved
loop-feed-preserved c =
    let was = c.loop-feed.invariant in let done = c.loop-feed.feeders.items in
    let jobs = map jobs_at done in let rest = into_iter_items c.next.new.self in let j = c.in-Some-next.jobs in
    let share = 4294967296 / length c.args.lists.now in
    let seat_is = each_last (λ (s : SeatView). s ≡ opened c.args.gate.now.id share) c.loop-feed.seats.items c.pop.new.self.items
    c.in-Some.seat c.in-Some.ensures.items was.5 in
    let place : c.loop-feed.feed ≡ length done = (let a = was.2 in let b = c.loop-feed.feeders.ok in omega arith) in
    let listed : get_elem? c.args.lists.now (length done) ≡ some c.index-lists-feed.result =
    subst (λ n. get_elem? c.args.lists.now n ≡ some c.index-lists-feed.result) place
    (got c.args.lists.now c.loop-feed.feed c.index-lists-feed.result c.index-lists-feed.is c.loop-feed-test.true) in (
      was.0 ∙ (ap (λ (t : List (PutView Job)). jobs ++ t) c.in-Some-next.ensures.cases.0
          ∙ (sym (append_assoc jobs (j ∷ []) rest) ∙ ap (λ (l : List (PutView Job)). l ++ rest)
          (sym (mapped_snoc jobs_at done c.push_reserved.new.self.items _ jobs j refl c.push_reserved.ensures.items refl)))),
      search rules,
      search rules,
      search rules,
      search rules,
      each_rest (λ (s : SeatView). s ≡ opened c.args.gate.now.id share) c.loop-feed.seats.items c.pop.new.self.items c.in-Some.seat
          c.in-Some.ensures.items was.5,
      search rules,
      each_rest (λ (r : GateId). r ≡ c.args.gate.now.id) c.loop-feed.rights.items c.pop-in-loop-feed.new.self.items c.in-Some-pop.right
          c.in-Some-pop.ensures.items was.7,
      subst (Each (λ (f : Feeder). f.seat.has.share ≡ share)) (sym c.push_reserved.ensures.items)
          (each_snoc (λ (f : Feeder). f.seat.has.share ≡ share) done _ was.8 (ap (λ (s : SeatView). s.has.share) seat_is)),
      subst (EachAt (λ k (f : Feeder). (f.rack ≡ c.args.rack) × (f.feed ≡ k) × (get_elem? c.args.lists.now k ≡ some f.list.now)
          × (f.gate.now ≡ c.args.gate.now))) (sym c.push_reserved.ensures.items)
          (each_at_snoc (λ k (f : Feeder). (f.rack ≡ c.args.rack) × (f.feed ≡ k) × (get_elem? c.args.lists.now k ≡ some f.list.now)
          × (f.gate.now ≡ c.args.gate.now)) done _ was.9 (refl, place, listed, refl)),
    )

pub invariant_of-result : goal.invariant_of-result
invariant_of-result c =
    let was = c.loop-feed.invariant in let low = c.loop-feed-test.false in let high = c.loop-feed.auto.feed-end in
    let long : vec_len c.loop-feed.feeders ≡ length c.args.lists.now = (let a = was.2 in let b = was.4 in omega arith) in record {
      own = λ k f at. (was.9 k f at).3;
      some = (let a = c.requires.few.0 in omega arith, let a = c.requires.few.1 in omega arith);
      room = (
        c.args.own.space.given.2,
        let a = c.args.own.space.given.3 in let b = c.requires.new.space in omega arith,
        c.args.own.space.left.0,
        let a = c.args.own.space.left.1 in let b = c.requires.new.space in omega arith,
        c.args.own.space.left.2,
        let a = c.args.own.space.left.3 in let b = c.requires.new.space in omega arith,
      );
    }

pub returns-clause-feeders : goal.returns-clause-feeders
returns-clause-feeders c =
    let was = c.loop-feed.invariant in let low = c.loop-feed-test.false in
    let long : length c.loop-feed.feeders.items ≡ length c.args.lists.now =
    (let a = was.2 in let b = was.4 in let d = c.loop-feed.feeders.ok in omega arith) in record {
      count = long;
      rights = ap (λ (s : GateSize). s.rights) c.requires.new.size ∙ sym long;
      shares = sum_same (λ (f : Feeder). f.seat.has.share) c.loop-feed.feeders.items (4294967296 / length c.args.lists.now) was.8
          ∙ (ap (λ n. 4294967296 / length c.args.lists.now * n) long ∙ sym (ap (λ (s : GateSize). s.total) c.requires.new.size));
      each = was.9;
    }
