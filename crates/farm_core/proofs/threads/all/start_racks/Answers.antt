use Rattle.std.proofs.Common.{arith, rules, ◌≡◌, ◌∙◌, ◌++◌, List, length, append_assoc, true≢false, sym, ap, subst}
use Rattle.std.specs.declared.thread.PromisedHandle.{PromisedHandle}
use Rattle.std.specs.Prelude.{Option}
use mathlib.Core.Option.{some}
use lib.ListN.{get_elem?}
use Rattle.list_members.proofs.Lists.{at_map}
use Rattle.farm_threads.specs.declared.given.Feeder.{Feeder}
use Rattle.farm_threads.specs.declared.feeder.Fed.{Fed}
use Rattle.farm_threads.specs.declared.feeder.FeedOf.{FeedOf}
use Rattle.farm_threads.specs.Threads.{feeders_of}
use Rattle.farm_threads.specs.declared.rack_feeders.RackRoom.{RackRoom}
use Rattle.farm_orders.proofs.Members.{map_length}
use Rattle.farm_core.proofs.threads.all.start_racks.Goals as goal

pub invariant_of-push_reserved : goal.invariant_of-push_reserved
invariant_of-push_reserved g c =
    let rack = c.in-Some.rack in let hs = c.start_feeders.new.handles.items in
    let given : feeders_of hs ≡ rack.feeders.items = c.start_feeders.ensures.all c.if-start_feeders.true in
    let long : length hs ≡ length rack.feeders.items = sym (map_length (λ (h : PromisedHandle (Option Fed) FeedOf). h.promise.0.value) hs)
    ∙ ap (λ (l : List Feeder). length l) given in
    let a = c.start_feeders.new.handles.ok in let b = rack.feeders.ok in record {
      own = λ k h at. rack.own k h.promise.0.value (subst (λ (l : List Feeder). get_elem? l k ≡ some h.promise.0.value) given
          (at_map (λ (h : PromisedHandle (Option Fed) FeedOf). h.promise.0.value) hs k h at));
      some = (let e = rack.some.0 in omega arith, let e = rack.some.1 in omega arith);
      room = (rack.room.2, let e = rack.room.3 in omega arith, rack.room.4, let e = rack.room.5 in omega arith);
    }

pub loop-rack-preserved-then-is_some : goal.loop-rack-preserved-then-is_some
loop-rack-preserved-then-is_some g c =
    let was = c.loop-rack.invariant in let steps = c.in-Some.ensures.steps in (
      rw append_assoc (was.0 ∙ ap (λ (t : List RackRoom). c.loop-rack.yielded ++ t) steps.0),
      search rules,
      omega (arith, was.2, steps.1),
      was.3,
    )

pub loop-rack-preserved : goal.loop-rack-preserved
loop-rack-preserved g c =
    let was = c.loop-rack.invariant in let steps = c.in-Some.ensures.steps in (
      rw append_assoc (was.0 ∙ ap (λ (t : List RackRoom). c.loop-rack.yielded ++ t) steps.0),
      λ none. absurd (true≢false none),
      omega (arith, was.2, steps.1),
      was.3,
    )
