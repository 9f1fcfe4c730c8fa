use Rattle.std.proofs.Common.{[], ◌∷◌, ◌++◌, ◌∙◌, refl, sym, subst, ap, arith, length}
use Rattle.std.proofs.lemmas.List.{length_push}
use Rattle.farm_lanes.specs.LaneEnds.{IsUnusedPut, IsUnusedTake, PutView}
use Rattle.std.specs.Prelude.{List}
use Rattle.farm_threads.specs.RunFeeds.{lists_of}
use Rattle.farm_threads.specs.Replies.{Replied}
use Rattle.farm_threads.specs.declared.given.WorkerEnds.{WorkerEnds}
use Rattle.farm_orders.proofs.Members.{map_length}
use Rattle.farm_core.proofs.Rooms.{front_unused}
use Rattle.farm_core.proofs.Readies.{is_ready}
use Rattle.farm_core.proofs.taken.room_for.Goals as goal

pub racks_for-racks_given-requires-clause-unused : goal.racks_for-racks_given-requires-clause-unused
racks_for-racks_given-requires-clause-unused c =
    let lane = c.in_ok-job_puts in
    front_unused c.all_feeds.result c.workers-workers.result
    (lane.job_puts.items ++ lane.stops ∷ []) lane.job_puts.items lane.job_takes.items lane.stops lane.ensures refl

pub racks_for-racks_given-requires-clause-count : goal.racks_for-racks_given-requires-clause-count
racks_for-racks_given-requires-clause-count c =
    let lane = c.in_ok-job_puts in
    let all = length_push lane.job_puts.items lane.stops in
    let count = lane.ensures.put_ends.count in
    let feeds = c.all_feeds.ensures.all in let ok = lane.job_puts.ok in omega arith

pub worker_ends-workers_given-requires-clause-unused_takes : goal.worker_ends-workers_given-requires-clause-unused_takes
worker_ends-workers_given-requires-clause-unused_takes c =
    λ k e at. subst IsUnusedTake (sym (c.in_ok-job_puts.ensures.take_ends.each k e at)) refl

pub worker_ends-workers_given-requires-clause-unused_puts : goal.worker_ends-workers_given-requires-clause-unused_puts
worker_ends-workers_given-requires-clause-unused_puts c =
    λ k e at. subst IsUnusedPut (sym (c.in_ok-reply_puts.ensures.put_ends.each k e at)) refl

pub returns-clause-ready : goal.returns-clause-ready
returns-clause-ready c =
    let jobs = c.in_ok-job_puts in let lane = c.in_ok-reply_puts in
    is_ready _ (lists_of c.args.lists) c.all_feeds.result c.workers-workers.result
    (jobs.job_puts.items ++ jobs.stops ∷ []) jobs.job_puts.items jobs.job_takes.items lane.reply_puts.items (lane.replies ∷ []) []
    jobs.ensures lane.ensures refl refl
    c.in_ok-board.ensures
    c.all_feeds.ensures.few (omega (arith, c.racks.ensures.limit))
    (omega (arith, c.workers-workers.ensures, c.args.settings.workers_fit))
    (omega (arith, c.workers-workers.ensures, c.args.settings.workers_most))
    c.worker_ends-workers_given.ensures.replies c.worker_ends-workers_given.ensures.jobs c.racks_for-racks_given.ensures.ends
    c.racks_for-racks_given.ensures.racks
    (c.in_ok-space.ensures.0 ∙ c.racks.ensures.count) c.in_ok-space.ensures.1

pub returns-clause-workers : goal.returns-clause-workers
returns-clause-workers c =
    let ends = c.worker_ends-workers_given in
    let pairs = map_length (λ (e : WorkerEnds). e.replies) ends.result.items in
    let put = ap (λ (l : List (PutView Replied)). length l) ends.ensures.replies in (
      c.workers-workers.ensures.same,
      sym pairs ∙ put ∙ c.in_ok-reply_puts.ensures.put_ends.count ∙ c.workers-workers.ensures.same,
    )
