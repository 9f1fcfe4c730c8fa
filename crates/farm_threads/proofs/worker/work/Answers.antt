use Rattle.std.proofs.Common.{rules, arith, true≢false, ◌∙◌, refl, ap, sym, subst, inl, inr, length}
use Rattle.std.proofs.lemmas.List.{length_push}
use Rattle.farm_lanes.specs.declared.lane.item.Item.{Item}
use Rattle.farm_lanes.specs.declared.lane.item.Item.TheVariants.{Value, End}
use Rattle.farm_lanes.specs.LaneEnds.{TakeView, PutView, with_taken}
use Rattle.farm_threads.specs.declared.jobs.Job.TheVariants.{Solve, Stop}
use Rattle.farm_threads.proofs.Works.{work_begins, work_replies, work_passes, work_ends, goes_on, none_stops}
use Rattle.farm_threads.proofs.worker.work.Goals as goal
use Rattle.farm_threads.proofs.worker.work.Goals.{in-None, in-Some+then-puts-ge-MOST_PUTS}
use Rattle.farm_threads.proofs.worker.work.Goals.{in-Some+else-puts-ge-MOST_PUTS+in-Value-default-default-Stop}
use Rattle.farm_threads.specs.Replies.{Replied}
use Rattle.farm_threads.specs.Jobs.{HasWorked, HasStopped}
use Rattle.farm_threads.specs.declared.jobs.Job.{Job}

pub loop-init : goal.loop-init
loop-init g c =
    let none = ap (λ (u : PutView Replied). length u.put) c.requires.unused.1 in (
      work_begins c.args.jobs c.args.replies c.requires.unused.0 c.requires.unused.1,
      none_stops c.args.jobs c.requires.unused.0,
      omega arith,
    )

pub loop-preserved-in-Value-default-default-Solve :
    goal.loop-preserved-in-Value-default-default-Solve
loop-preserved-in-Value-default-default-Solve g c =
    let h = c.in-Value-default-default-Solve in let was = c.loop.invariant in
    let x : Item Job = Value h.sender h.number' (Solve h.slot h.number h.request) in
    let took = c.take.ensures.taken ∙ ap (with_taken c.loop.jobs) (h.is ∙ ap (λ v. Value h.sender h.number' v) h.value-is) in
    let longer = ap (λ (u : PutView Replied). length u.put) c.put.ensures
    ∙ length_push c.loop.replies.put (Value c.loop.replies.sender (length c.loop.replies.put) c.reply_to.result) in (
      work_replies c.args.jobs c.args.replies c.loop.jobs c.take.new.self c.loop.replies c.put.new.self x
          (Value c.loop.replies.sender (length c.loop.replies.put) c.reply_to.result)
          was.0 (c.reply_to.ensures, tt) refl took c.put.ensures,
      goes_on c.loop.jobs c.take.new.self x was.1 (λ stop. stop) took,
      search rules,
    )

pub loop-preserved : goal.loop-preserved
loop-preserved g c =
    let was = c.loop.invariant in let x : Item Job = End c.in-End.sender c.in-End.number in
    let took = c.take.ensures.taken ∙ ap (with_taken c.loop.jobs) c.in-End.is in (
      work_passes c.args.jobs c.args.replies c.loop.jobs c.take.new.self c.loop.replies x was.0 refl took,
      goes_on c.loop.jobs c.take.new.self x was.1 (λ stop. stop) took,
      was.2,
    )

pub returns-clause-worked : goal.returns-clause-worked
returns-clause-worked g c =
    let ends = work_ends c.args.jobs c.args.replies in
    let P = λ (j : TakeView Job). HasWorked c.args.jobs c.args.replies j c.end.result in
    elim c.match-next.branch [
      | in-None w ↦ subst P (sym w.jobs-is) (ends c.loop.jobs c.loop.replies c.end.result c.loop.invariant.0 c.end.ensures)
      | in-Some+then-puts-ge-MOST_PUTS w ↦ subst P (sym w.jobs-is)
          (ends c.loop.jobs c.loop.replies c.end.result c.loop.invariant.0 c.end.ensures)
      | in-Some+else-puts-ge-MOST_PUTS+in-Value-default-default-Stop w ↦
          (let h = w.in-Value-default-default-Stop in
          subst P (sym w.jobs-is)
          (ends w.take.new.self c.loop.replies c.end.result
          (work_passes c.args.jobs c.args.replies c.loop.jobs w.take.new.self c.loop.replies
          (Value h.sender h.number Stop) c.loop.invariant.0 refl
          (w.take.ensures.taken ∙ ap (with_taken c.loop.jobs) (h.is ∙ ap (λ v. Value h.sender h.number v) h.value-is)))
          c.end.ensures))
    ]

pub returns-clause-stopped : goal.returns-clause-stopped
returns-clause-stopped g c =
    let was = c.loop.invariant in
    let P = λ (j : TakeView Job). HasStopped j.taken c.end.result.put in
    let longer = ap (λ (u : PutView Replied). length u.put) c.end.ensures
    ∙ length_push c.loop.replies.put (End c.loop.replies.sender (length c.loop.replies.put)) in
    elim c.match-next.branch [
      | in-None w ↦ absurd (true≢false (sym w.in-None.ensures.steps))
      | in-Some+then-puts-ge-MOST_PUTS w ↦ subst P (sym w.jobs-is)
          (inr ((let limit = was.2 in let enough = w.if-puts-ge-MOST_PUTS.true in let puts = w.puts.ensures in omega arith), was.1))
      | in-Some+else-puts-ge-MOST_PUTS+in-Value-default-default-Stop w ↦
          (let h = w.in-Value-default-default-Stop in let x : Item Job = Value h.sender h.number Stop in
          subst P (sym w.jobs-is)
          (inl (
            c.loop.jobs.taken,
            x,
            ap (λ (u : TakeView Job). u.taken)
                (w.take.ensures.taken ∙ ap (with_taken c.loop.jobs) (h.is ∙ ap (λ v. Value h.sender h.number v) h.value-is)),
            tt,
            was.1,
          )))
    ]
