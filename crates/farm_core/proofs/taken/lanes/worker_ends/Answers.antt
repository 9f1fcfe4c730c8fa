use Rattle.std.proofs.Common.{rules, ◌≡◌, ◌∙◌, List, ◌++◌, refl, ap, sym, subst, append_assoc}
use Rattle.list_members.proofs.Lists.{each_snoc}
use Rattle.farm_lanes.specs.LaneEnds.{PutView, TakeView, IsUnusedPut, IsUnusedTake, new_take}
use Rattle.list_members.specs.Lists.{Each}
use Rattle.farm_threads.specs.Replies.{Replied}
use Rattle.farm_threads.specs.declared.jobs.Job.{Job}
use Rattle.farm_threads.specs.declared.given.WorkerEnds.{WorkerEnds}
use Rattle.farm_core.proofs.Rooms.{each_last, each_rest, each_middle, mapped_snoc}
use Rattle.farm_core.proofs.taken.lanes.worker_ends.Goals as goal

pub invariant_of-push_reserved : goal.invariant_of-push_reserved
invariant_of-push_reserved c =
    let was = c.loop-replies.invariant in let done = c.loop-replies.yielded in record {
      unused_jobs = each_last IsUnusedTake c.loop-replies.takes.items c.pop.new.self.items c.in-Some-pop.jobs c.in-Some-pop.ensures.items
          was.3;
      unused_replies = each_middle IsUnusedPut c.args.puts.items done _ c.in-Some.replies
          (sym c.into_iter-replies-iterator.ensures.into_iter_gives.0
          ∙ (was.0 ∙ ap (λ (t : List (PutView Replied)). done ++ t) c.in-Some.ensures.steps.0)) c.requires.unused_puts;
    }

pub loop-replies-preserved : goal.loop-replies-preserved
loop-replies-preserved c =
    let was = c.loop-replies.invariant in let done = c.loop-replies.yielded in (
      rw append_assoc (was.0 ∙ ap (λ (t : List (PutView Replied)). done ++ t) c.in-Some.ensures.steps.0),
      mapped_snoc (λ (e : WorkerEnds). e.replies) c.loop-replies.ends.items c.push_reserved.new.self.items _ done c.in-Some.replies was.1
          c.push_reserved.ensures.items refl,
      search rules,
      each_rest IsUnusedTake c.loop-replies.takes.items c.pop.new.self.items c.in-Some-pop.jobs c.in-Some-pop.ensures.items was.3,
      (λ lane each.
          let so_far = was.4 lane each in
          let P : TakeView Job → Type 0 = λ t. t ≡ new_take lane in (
            each_rest P c.loop-replies.takes.items c.pop.new.self.items c.in-Some-pop.jobs c.in-Some-pop.ensures.items so_far.0,
            subst (Each (λ (e : WorkerEnds). P e.jobs)) (sym c.push_reserved.ensures.items)
                (each_snoc (λ (e : WorkerEnds). P e.jobs) c.loop-replies.ends.items _ so_far.1
                (each_last P c.loop-replies.takes.items c.pop.new.self.items c.in-Some-pop.jobs c.in-Some-pop.ensures.items so_far.0)),
          )),
      search rules,
    )
