-- A room that is ready.
use Rattle.std.proofs.Common.{◌≡◌, ℕ, ◌+◌, ◌<◌, ◌≤◌, List, [], ◌∷◌, ◌++◌, length, map, sym, ◌∙◌, subst, arith}
use mathlib.Core.Option.{some}
use lib.ListN.{get_elem?}
use Rattle.list_members.proofs.Lists.{at_map}
use Rattle.farm_lanes.proofs.Opens.{popped_put, popped_take}
use Rattle.farm_lanes.specs.LaneEnds.{LaneName, PutView, TakeView, new_take, AreNewPutEnds, AreNewEnds}
use Rattle.list_members.specs.Lists.{Each}
use Rattle.farm_orders.specs.declared.orders.Order.{Order}
use Rattle.farm_threads.specs.declared.jobs.Job.{Job}
use Rattle.farm_threads.specs.declared.given.WorkerEnds.{WorkerEnds}
use Rattle.farm_threads.specs.declared.rack_feeders.RackRoom.{RackRoom}
use Rattle.farm_core.specs.declared.taken.Room.{Room}
use Rattle.farm_threads.specs.Boards.{HoldsNothing}
use Rattle.farm_threads.specs.Replies.{Replied}
use Rattle.farm_core.specs.Ready.{AreAllGiven, ends_given, rooms_of, IsReady}
use Rattle.farm_orders.proofs.Members.{map_length}
use Rattle.farm_core.proofs.Starts.{mapped_length}

pub is_ready : (room : Room) (lists : List (List (List Order))) (n w : ℕ) (puts rest : List (PutView Job)) (takes : List (TakeView Job))
    (reply_puts : List (PutView Replied)) (reply_takes nil : List (TakeView Replied))
    → (jobs : AreNewEnds (n + 1) w puts takes) → (replies : AreNewEnds w 1 reply_puts reply_takes)
    → puts ≡ rest ++ room.stops ∷ [] → reply_takes ≡ nil ++ room.desk.replies ∷ []
    → HoldsNothing lists room.desk.board → n ≤ 64 → length lists ≤ 16 → 0 < w → w ≤ 16
    → map (λ (e : WorkerEnds). e.replies) room.workers.items ≡ reply_puts
    → ((lane : LaneName Job) → Each (λ t. t ≡ new_take lane) takes → Each (λ (e : WorkerEnds). e.jobs ≡ new_take lane) room.workers.items)
    → ends_given (rooms_of room.racks.items) ≡ rest → AreAllGiven lists (rooms_of room.racks.items)
    → room.space.ends.racks ≡ length lists → room.space.ends.workers ≡ w → IsReady room
is_ready room lists n w puts rest takes reply_puts reply_takes nil jobs replies stops desk nothing few_feeders few_racks working few
    worker_replies worker_jobs feeder_jobs given space_racks space_workers =
    let popped = popped_put jobs.lane n puts rest room.stops jobs.put_ends stops in
    let last = popped_take replies.lane 0 reply_takes nil room.desk.replies replies.take_ends desk in
    let racked : length (rooms_of room.racks.items) ≡ length room.racks.items =
    map_length (λ (r : RackRoom). (r.gate.now, r.feeders.items)) room.racks.items in
    let racks : length room.racks.items ≡ length lists = sym racked ∙ given.count in
    let worked : length reply_puts ≡ length room.workers.items =
    mapped_length (λ (e : WorkerEnds). e.replies) room.workers.items reply_puts worker_replies in
    let workers : length room.workers.items ≡ w = sym worked ∙ replies.put_ends.count in
    let same : lists ≡ room.desk.board.racks = sym nothing.0 in
    let all_jobs = jobs.ends in
    let all_replies = replies.ends in
    let takes_are = worker_jobs jobs.lane jobs.take_ends.each in record {
      jobs_lane = jobs.lane;
      replies_lane = replies.lane;
      feeders = n;
      few_feeders = few_feeders;
      few_racks = omega arith;
      some_workers = omega arith;
      few_workers = omega arith;
      all_jobs = omega arith;
      all_replies = omega arith;
      workers_are = record {
        each = λ k e at. (
          takes_are k e at,
          replies.put_ends.each k e.replies
              (subst (λ (l : List (PutView Replied)). get_elem? l k ≡ some e.replies) worker_replies
              (at_map (λ (x : WorkerEnds). x.replies) room.workers.items k e at)),
        );
      };
      racks_are = subst (λ (l : List (List (List Order))). AreAllGiven l (rooms_of room.racks.items)) same given;
      ends_are = subst (λ (l : List (PutView Job)). AreNewPutEnds jobs.lane n l) (sym feeder_jobs) popped.1;
      stops_is = popped.0;
      desk_is = last.0;
      nothing = subst (λ (l : List (List (List Order))). HoldsNothing l room.desk.board) same nothing;
      space_racks = space_racks ∙ sym racks;
      space_workers = space_workers ∙ sym workers;
    }
