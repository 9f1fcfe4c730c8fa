-- The ends that joined workers left are all of their lanes' ends.
use Rattle.std.proofs.Common.{◌≡◌, ℕ, List, [], ◌∷◌, ◌++◌, length, sym, ap, ◌∙◌, subst, arith, append-nil}
use Rattle.std.specs.List.{AllZip}
use mathlib.Core.Option.{some}
use lib.ListN.{get_elem?}
use Rattle.std.specs.declared.thread.PromisedHandle.{PromisedHandle}
use Rattle.list_members.proofs.Lists.{at_below, at_map}
use Rattle.farm_lanes.proofs.Values.{values-append}
use Rattle.farm_lanes.specs.declared.lane.item.Item.TheVariants.{End}
use Rattle.farm_lanes.specs.LaneRecord.{values}
use Rattle.farm_lanes.specs.LaneEnds.{LaneName, PutView, TakeView, new_put, new_take}
use Rattle.farm_threads.specs.declared.given.WorkerEnds.{WorkerEnds}
use Rattle.farm_threads.specs.declared.jobs.Job.{Job}
use Rattle.farm_threads.specs.declared.worker.Worked.{Worked}
use Rattle.farm_threads.specs.Replies.{Replied}
use Rattle.farm_threads.specs.declared.worker.WorkOf.{WorkOf}
use Rattle.farm_threads.specs.Jobs.{AreReplies, HasWorked, HasAnswered}
use Rattle.farm_threads.specs.Threads.{WorkersJoined, AreWorkerEnds, ends_of}
use Rattle.farm_orders.proofs.Members.{there}
use Rattle.farm_core.proofs.Joins.{answered_all}

abbrev Handle : Type 0
Handle = PromisedHandle Worked WorkOf

-- what a worker put replies to what it took
pub worked_answered : (jobs : TakeView Job) (replies : PutView Replied) (j : TakeView Job) (r : PutView Replied)
    → HasWorked jobs replies j r → HasAnswered j r
worked_answered jobs replies j r w =
    let P : TakeView Job × PutView Replied → Type 0 = λ p. HasAnswered p.0 p.1 in
    let mark = End replies.sender (length w.put) in
    let vals : values (w.put ++ mark ∷ []) ≡ values w.put = values-append w.put (mark ∷ []) ∙ append-nil (values w.put) in
    subst P (λ i. (sym w.jobs_is i, sym w.replies_is i)) (subst (λ l. AreReplies (values w.took) l) (sym vals) w.answered)

module _ (L : LaneName Job) (M : LaneName Replied) (hs : List Handle) (js : List (TakeView Job)) (rs : List (PutView Replied))
    (ends : List WorkerEnds) (joined : WorkersJoined hs js rs) (given : ends_of hs ≡ ends) (are : AreWorkerEnds L M ends) where
  -- the ends of the worker at an index
  given_at : (k : ℕ) (h : Handle) → get_elem? hs k ≡ some h → (h.promise.0.value.jobs ≡ new_take L)
      × (h.promise.0.value.replies ≡ new_put M k)
  given_at k h at = are.each k h.promise.0.value (subst (λ (l : List WorkerEnds). get_elem? l k ≡ some h.promise.0.value) given
      (at_map (λ (x : Handle). x.promise.0.value) hs k h at))

  pub workers_answered : AllZip HasAnswered js rs
  workers_answered = answered_all HasAnswered js rs (joined.jobs_count ∙ sym joined.replies_count)
      (λ k j r at_j at_r. let h = there hs k (let l = at_below js k j at_j in let e = joined.jobs_count in omega arith) in
      worked_answered h.0.promise.0.value.jobs h.0.promise.0.value.replies j r (joined.each k h.0 j r h.1 at_j at_r))

  pub job_ends_are : (k : ℕ) (j : TakeView Job) → get_elem? js k ≡ some j → j.lane ≡ L
  job_ends_are k j at =
      let low = at_below js k j at in
      let h = there hs k (let e = joined.jobs_count in omega arith) in
      let r = there rs k (let e = joined.jobs_count in let f = joined.replies_count in omega arith) in
      let w = joined.each k h.0 j r.0 h.1 at r.1 in
      let g = (given_at k h.0 h.1).0 in
      ap (λ (e : TakeView Job). e.lane) w.jobs_is ∙ ap (λ (e : TakeView Job). e.lane) g

  pub reply_ends_are : (k : ℕ) (r : PutView Replied) → get_elem? rs k ≡ some r → (r.lane ≡ M) × (r.sender ≡ k)
  reply_ends_are k r at =
      let low = at_below rs k r at in
      let h = there hs k (let e = joined.replies_count in omega arith) in
      let j = there js k (let e = joined.jobs_count in let f = joined.replies_count in omega arith) in
      let w = joined.each k h.0 j.0 r h.1 j.1 at in
      let g = (given_at k h.0 h.1).1 in (
        ap (λ (e : PutView Replied). e.lane) w.replies_is ∙ ap (λ (e : PutView Replied). e.lane) g,
        ap
            (λ (e : PutView Replied). e.sender) w.replies_is ∙ ap (λ (e : PutView Replied). e.sender) g,
      )
