use Rattle.std.proofs.Common.{rules, true≢false, ◌∙◌, List, [], ◌∷◌, ◌++◌, Option, vec_items, ap, sym, subst, append_assoc}
use Rattle.std.specs.declared.thread.PromisedHandle.{PromisedHandle}
use Rattle.farm_threads.specs.declared.feeder.Fed.{Fed}
use Rattle.farm_threads.specs.Threads.{FeedersJoined}
use Rattle.farm_threads.specs.declared.feeder.FeedOf.{FeedOf}
use Rattle.farm_threads.proofs.Joined.{fed_next}
use Rattle.farm_threads.proofs.feeder.join_feeders.Goals as goal

pub loop-handle-preserved-in-Some-join : goal.loop-handle-preserved-in-Some-join
loop-handle-preserved-in-Some-join g c =
    let was = c.loop-handle.invariant in let done = c.loop-handle.yielded in (
      rw append_assoc (was.0 ∙ ap (λ (t : List (PromisedHandle (Option Fed) FeedOf)). done ++ t) c.in-Some.ensures.steps.0),
      (λ all. subst (λ (l : List Fed). FeedersJoined (done ++ c.in-Some.handle ∷ []) l) (sym c.push_reserved.ensures.items)
          (fed_next done (vec_items c.loop-handle.given_back) c.in-Some.handle c.in-Some-join.fed (was.1 all) c.in-Some-join.ensures)),
      search rules,
    )

pub loop-handle-preserved : goal.loop-handle-preserved
loop-handle-preserved g c =
    let was = c.loop-handle.invariant in let done = c.loop-handle.yielded in (
      rw append_assoc (was.0 ∙ ap (λ (t : List (PromisedHandle (Option Fed) FeedOf)). done ++ t) c.in-Some.ensures.steps.0),
      (λ no. absurd (true≢false (sym no))),
      search rules,
    )
