use Rattle.std.proofs.Common.{rules, ◌∙◌, List, [], ◌∷◌, ◌++◌, vec_items, ap, sym, subst, append_assoc}
use Rattle.std.specs.declared.thread.PromisedHandle.{PromisedHandle}
use Rattle.farm_lanes.specs.LaneEnds.{PutView, TakeView}
use Rattle.farm_threads.specs.Threads.{WorkersJoined}
use Rattle.farm_threads.specs.declared.jobs.Job.{Job}
use Rattle.farm_threads.specs.declared.worker.Worked.{Worked}
use Rattle.farm_threads.specs.Replies.{Replied}
use Rattle.farm_threads.specs.declared.worker.WorkOf.{WorkOf}
use Rattle.farm_threads.proofs.Joined.{joined_next}
use Rattle.farm_threads.proofs.worker.join_workers.Goals as goal

pub loop-handle-preserved : goal.loop-handle-preserved
loop-handle-preserved g c =
    let was = c.loop-handle.invariant in let done = c.loop-handle.yielded in (
      rw append_assoc (was.0 ∙ ap (λ (t : List (PromisedHandle Worked WorkOf)). done ++ t) c.in-Some.ensures.steps.0),
      (let P : List (TakeView Job) × List (PutView Replied) → Type 0 = λ p. WorkersJoined (done ++ c.in-Some.handle ∷ []) p.0 p.1 in
          subst P (λ i. (sym c.push_reserved.ensures.items i, sym c.push_reserved-in-loop-handle.ensures.items i))
          (joined_next done (vec_items c.loop-handle.job_ends)
          (vec_items c.loop-handle.reply_ends) c.in-Some.handle c.join-jobs.result.jobs c.join-jobs.result.replies was.1
          c.join-jobs.ensures)),
      search rules,
      search rules,
    )
