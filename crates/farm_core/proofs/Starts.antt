-- From a room that is ready to joined threads.
use Rattle.std.proofs.Common.{◌≡◌, ℕ, zero, suc, ◌+◌, List, [], ◌∷◌, ◌++◌, length, map, sym, ap, ◌∙◌, subst, ⊎_elim, arith, Option}
use Rattle.std.proofs.lemmas.List.{length_push}
use mathlib.Core.Option.{some, some-ne-none, some-injective}
use lib.ListN.{get_elem?}
use Rattle.std.specs.declared.thread.PromisedHandle.{PromisedHandle}
use Rattle.list_members.proofs.Lists.{at_map, at_snoc_or}
use Rattle.farm_lanes.specs.LaneEnds.{PutView, TakeView, new_put}
use Rattle.farm_lanes.specs.LaneRecord.{values}
use Rattle.farm_orders.specs.declared.orders.Order.{Order}
use Rattle.farm_threads.specs.declared.jobs.Job.{Job}
use Rattle.farm_threads.specs.declared.worker.Worked.{Worked}
use Rattle.farm_threads.specs.declared.rack_feeders.RackFeeders.{RackFeeders}
use Rattle.farm_core.specs.declared.taken.Room.{Room}
use Rattle.farm_threads.specs.declared.worker.WorkOf.{WorkOf}
use Rattle.farm_threads.specs.declared.replies.CollectFault.{CollectFault}
use Rattle.farm_threads.specs.Replies.{Replied}
use Rattle.farm_threads.specs.Boards.{Held, HasHeld}
use Rattle.farm_threads.specs.Jobs.{HasPutStops}
use Rattle.farm_threads.specs.Settled.{HasCleared, HasJoined, HavePut}
use Rattle.farm_threads.specs.Threads.{ends_of, feeders_of, WorkersJoined}
use Rattle.farm_core.specs.Ready.{Given, AreAllFeeders, AreAllGiven, AreEndsOf, HavePutRacks, all_given, as_new, ends_given, rooms_of}
use Rattle.farm_core.specs.Ready.{started_of, IsReady}
use Rattle.farm_orders.proofs.Members.{map_length}
use Rattle.farm_core.proofs.AllRacks.{puts_stops}
use Rattle.farm_core.proofs.Clears.{collected_racks}
use Rattle.farm_core.proofs.Wholes.{workers_answered, job_ends_are, reply_ends_are}

abbrev pub Handle : Type 0
Handle = PromisedHandle Worked WorkOf

module _ {A B : Type 0} where
  pub mapped_length : (f : A → B) (xs : List A) (ys : List B) → map f xs ≡ ys → length ys ≡ length xs
  mapped_length f xs ys is = sym (ap (λ (l : List B). length l) is) ∙ map_length f xs

-- feeders of all racks, once their threads are started
all_feeders : (lists : List (List (List Order))) (racks : List RackFeeders) → AreAllGiven lists (started_of racks)
    → AreAllFeeders lists racks
all_feeders lists racks are = record {
  count = sym (map_length (λ (r : RackFeeders). (r.gate.now, feeders_of r.handles.items)) racks) ∙ are.count;
  each = λ k feeds r at_l at_r. are.each k feeds (r.gate.now, feeders_of r.handles.items) at_l
      (at_map (λ (r : RackFeeders). (r.gate.now, feeders_of r.handles.items)) racks k r at_r);
}

module _ (room : Room) (ready : IsReady room) where
  abbrev racks : List (List (List Order))
  racks = room.desk.board.racks

  module _ (rs : List RackFeeders) (puts : List (PutView Job)) (given : started_of rs ≡ rooms_of room.racks.items)
      (joined : HavePutRacks rs puts) (were : AreEndsOf (all_given (started_of rs)) puts) (last : PutView Job)
      (stops : HasPutStops room.stops last) where
    -- the ends as they were
    news : map as_new puts ≡ ends_given (rooms_of room.racks.items)
    news = were ∙ ap ends_given given

    count : length puts ≡ ready.feeders
    count = sym (map_length as_new puts) ∙ (ap (λ (l : List (PutView Job)). length l) news ∙ ready.ends_are.count)

    all_put : HavePut racks (puts ++ last ∷ [])
    all_put = puts_stops racks puts room.stops last (joined racks
        (all_feeders racks rs (subst (λ (l : List Given). AreAllGiven racks l) (sym given) ready.racks_are))) stops

    puts_are : (k : ℕ) (e : PutView Job) → get_elem? (puts ++ last ∷ []) k ≡ some e → (e.lane ≡ ready.jobs_lane) × (e.sender ≡ k)
    puts_are k e at = ⊎_elim
        (λ old.
        let here : as_new e ≡ new_put ready.jobs_lane k =
        ready.ends_are.each k (as_new e) (subst (λ (l : List (PutView Job)). get_elem? l k ≡ some (as_new e)) news
        (at_map as_new puts k e old)) in (
          ap (λ (u : PutView Job). u.lane) here,
          ap (λ (u : PutView Job). u.sender) here,
        ))
        (λ (new : (k ≡ length puts) × (last ≡ e)). (
          sym (ap (λ (u : PutView Job). u.lane) new.1) ∙ (ap (λ (u : PutView Job). u.lane) stops.stops_is
              ∙ ap (λ (u : PutView Job). u.lane) ready.stops_is),
          sym (ap (λ (u : PutView Job). u.sender) new.1) ∙ (ap (λ (u : PutView Job). u.sender) stops.stops_is
              ∙ (ap (λ (u : PutView Job). u.sender) ready.stops_is ∙ (sym count ∙ sym new.0))),
        ))
        (at_snoc_or puts last e k at)

    -- all threads were joined
    pub has_joined : (ws : List Handle) (js : List (TakeView Job)) (rs : List (PutView Replied)) (desk : TakeView Replied) (c : Held)
        (fault : Option CollectFault)
        → ends_of ws ≡ room.workers.items → WorkersJoined ws js rs → HasCleared racks room.desk.replies c fault desk
        → HasJoined c.racks (puts ++ last ∷ []) js rs desk c fault
    has_joined ws js rs desk c fault ends workers cleared =
        let len = mapped_length (λ (h : Handle). h.promise.0.value) ws room.workers.items ends in
        let js_count : length js ≡ length room.workers.items = workers.jobs_count ∙ sym len in
        let rs_count : length rs ≡ length room.workers.items = workers.replies_count ∙ sym len in
        let more : length (puts ++ last ∷ []) ≡ length puts + 1 = length_push puts last in
        let same : c.racks ≡ racks = collected_racks racks c fault (values cleared.took) cleared.collected in
        subst (λ (l : List (List (List Order))). HasJoined l (puts ++ last ∷ []) js rs desk c fault) (sym same) (record {
          count = all_put.count;
          drawn = all_put.drawn;
          put_drawn = all_put.put_drawn;
          collected = subst (λ (u : TakeView Replied). HasHeld racks c fault (values u.taken)) (sym cleared.desk_is) cleared.collected;
          answered = workers_answered ready.jobs_lane ready.replies_lane ws js rs room.workers.items workers ends ready.workers_are;
          jobs_whole = record {
            lane = ready.jobs_lane;
            all = (let a = count in let b = ready.all_jobs in omega arith);
            some_put = omega arith;
            each_put = puts_are;
            each_take = job_ends_are ready.jobs_lane ready.replies_lane ws js rs room.workers.items workers ends ready.workers_are;
          };
          replies_whole = record {
            lane = ready.replies_lane;
            all = (let b = ready.all_replies in omega arith);
            some_put = (let b = ready.some_workers in omega arith);
            each_put = reply_ends_are ready.jobs_lane ready.replies_lane ws js rs room.workers.items workers ends ready.workers_are;
            each_take = λ k e at. only k e at;
          };
          few = ((let a = count in let b = ready.few_feeders in omega arith), (let b = ready.few_workers in omega arith));
        })
      where
        lane_is : desk.lane ≡ ready.replies_lane
        lane_is = ap (λ (u : TakeView Replied). u.lane) cleared.desk_is ∙ ap (λ (u : TakeView Replied). u.lane) ready.desk_is

        only : (k : ℕ) (e : TakeView Replied) → get_elem? (desk ∷ []) k ≡ some e → e.lane ≡ ready.replies_lane
        only zero e at = subst (λ (u : TakeView Replied). u.lane ≡ ready.replies_lane) (some-injective desk e at) lane_is
        only (suc k) e at = absurd (some-ne-none e (sym at))
