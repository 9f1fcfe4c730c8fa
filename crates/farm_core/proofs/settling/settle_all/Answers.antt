use Rattle.std.proofs.Common.{arith, ◌∙◌, [], ◌∷◌, ◌++◌, List, length, ap, sym, subst}
use Rattle.std.specs.List.{sum_by}
use Rattle.farm_lanes.specs.LaneEnds.{PutView, TakeView, AreAllEnds, puts_of, takes_of}
use Rattle.farm_lanes.specs.LaneSettled.{IsSettled}
use Rattle.farm_threads.specs.declared.jobs.Job.{Job}
use Rattle.farm_threads.specs.Replies.{Replied}
use Rattle.farm_core.proofs.Clears.{job_ends_whole, desk_whole, finishes}
use Rattle.farm_core.proofs.settling.settle_all.Goals as goal

pub settle-requires : goal.settle-requires
settle-requires g c =
    let j = c.args.joined in
    let rest = c.pop.new.self.items in
    subst (λ (l : List (TakeView Job)). AreAllEnds j.put_ends.items l)
    (sym (c.push_reserved-2.ensures.items ∙ ap (λ (x : TakeView Job). rest ++ x ∷ []) c.take_left-all.ensures.jobs_is))
    (job_ends_whole j.put_ends.items rest c.in-Some.last c.take_left-all.ensures.more
    (subst (λ (l : List (TakeView Job)). AreAllEnds j.put_ends.items l) c.in-Some.ensures.items c.requires.joined.jobs_whole))

pub settle-requires-2 : goal.settle-requires-2
settle-requires-2 g c =
    let j = c.args.joined in
    subst (λ (l : List (TakeView Replied)). AreAllEnds j.reply_ends.items l)
    (sym (c.push_reserved.ensures.items ∙ (ap (λ (l : List (TakeView Replied)). l ++ c.take_replies-all.new.replies ∷ []) c.requires.room.0
    ∙ ap (λ (x : TakeView Replied). x ∷ []) c.take_replies-all.ensures.desk_is)))
    (desk_whole j.reply_ends.items j.desk c.take_replies-all.ensures.more c.requires.joined.replies_whole)

pub conclude-requires : goal.conclude-requires
conclude-requires g c =
    let j = c.args.joined in
    let jobs_are = c.push_reserved-2.ensures.items in
    let desk_are = c.push_reserved.ensures.items ∙ ap (λ (l : List (TakeView Replied)). l ++ c.take_replies-all.new.replies
    ∷ []) c.requires.room.0 in
    (finishes j.all.board.racks j.put_ends.items j.job_ends.items c.pop.new.self.items j.reply_ends.items j.desk
    c.take_replies-all.new.replies c.in-Some.last c.take_left-all.new.jobs
    j.all.board c.take_replies-all.result.board c.take_left-all.result.board j.all.fault c.take_replies-all.result.fault
    c.take_left-all.result.fault
    c.saturating_sub-missing.result c.saturating_sub-left.result c.put_total-replied.result c.count.result c.put_total-put.result
    c.taken_total-taken.result c.settle.result.put c.settle.result.taken c.settle-2.result.put c.settle-2.result.taken
    c.requires.joined c.in-Some.ensures.items c.take_replies-all.ensures c.take_left-all.ensures
    (c.put_total-replied.ensures ∙ ap (λ (l : List (PutView Replied)). sum_by
    (λ (e : PutView Replied). length e.put) l) c.as_slice.ensures.value)
    (omega (arith, c.count.ensures))
    (omega (arith, c.saturating_sub-missing.ensures))
    (c.put_total-put.ensures ∙ ap (λ (l : List (PutView Job)). sum_by (λ (e : PutView Job). length e.put) l) c.as_slice-2.ensures.value)
    (let same = ap (λ (l : List (TakeView Job)). sum_by (λ (e : TakeView Job). length e.taken) l) c.as_slice-3.ensures.value in
    let le = c.taken_total-taken.ensures in omega arith)
    (omega (arith, c.saturating_sub-left.ensures))
    (subst (λ (l : List (TakeView Job)). IsSettled c.settle.result.put c.settle.result.taken (puts_of j.put_ends.items)
    (takes_of l)) jobs_are c.settle.ensures.settled)
    (subst (λ (l : List (TakeView Replied)). IsSettled c.settle-2.result.put c.settle-2.result.taken (puts_of j.reply_ends.items)
    (takes_of l)) desk_are c.settle-2.ensures.settled)).0
