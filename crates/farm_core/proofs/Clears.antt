-- What was taken after the threads is handed in too.
use Rattle.std.proofs.Common.{◌≡◌, ℕ, zero, suc, ◌+◌, ◌≤◌, List, [], ◌∷◌, ◌++◌, length, Option, Some, None, refl, sym, ap, ◌∙◌, subst}
use Rattle.std.proofs.Common.{arith, append-nil, append_assoc, length-append, ⊎_elim}
use Rattle.std.specs.List.{sum_by, AllZip}
use Rattle.std.proofs.lemmas.List.{length_push}
use Rattle.std.proofs.lemmas.List.Sums.{sum_by-cons, sum_by-append}
use mathlib.Core.Option.{some, some-ne-none, some-injective}
use lib.ListN.{get_elem?}
use Rattle.farm_lanes.specs.declared.lane.item.Item.{Item}
use Rattle.list_members.proofs.Lists.{at_snoc_or, at_front, at_back}
use Rattle.farm_lanes.proofs.Values.{values-append}
use Rattle.farm_lanes.specs.LaneEnds.{PutView, TakeView, take_end, with_taken, AreAllEnds, puts_of, takes_of}
use Rattle.farm_lanes.specs.LaneRecord.{values}
use Rattle.farm_lanes.specs.LaneSettled.{IsSettled}
use Rattle.farm_orders.specs.declared.orders.Order.{Order}
use Rattle.farm_threads.specs.declared.jobs.Job.{Job}
use Rattle.farm_threads.specs.Replies.{Replied}
use Rattle.farm_threads.specs.declared.replies.CollectFault.{CollectFault}
use Rattle.farm_threads.specs.Boards.{Held, HasHeld}
use Rattle.farm_threads.specs.Jobs.{AreReplies, HasAnswered}
use Rattle.farm_threads.specs.Settled.{HasCleared, HasMore, took_on, TookLeft, TookReplies, HasOneEach, HasJoined, IsDrawnAt}
use Rattle.farm_threads.proofs.Works.{taken_more, replies_append}
use Rattle.farm_threads.proofs.Settled.{Ran, one_each, each_is_so}

pub nothing_more : (c : Held) (fault : Option CollectFault) → HasMore c fault [] c fault
nothing_more c fault racks xs h = subst (λ l. HasHeld racks c fault l) (sym (append-nil xs)) h

pub more_and_more : (c c1 c2 : Held) (f f1 f2 : Option CollectFault) (xs ys : List Replied) → HasMore c f xs c1 f1 → HasMore c1 f1 ys c2 f2
    → HasMore c f (xs ++ ys) c2 f2
more_and_more c c1 c2 f f1 f2 xs ys a b racks zs h = subst (λ l. HasHeld racks c2 f2 l) (append_assoc zs xs ys)
    (b racks (zs ++ xs) (a racks zs h))

pub cleared_next : (racks : List (List (List Order))) (desk e e' : TakeView Replied) (c c' : Held) (f f' : Option CollectFault)
    (x : Item Replied) → HasCleared racks desk c f e → e' ≡ with_taken e x → HasMore c f (values (x ∷ [])) c' f'
    → HasCleared racks desk c' f' e'
cleared_next racks desk e e' c c' f f' x was more step = record {
  took = was.took ++ x ∷ [];
  desk_is = taken_more e e' desk.lane was.took x was.desk_is more;
  collected = subst (λ l. HasHeld racks c' f' l) (sym (values-append was.took (x ∷ []))) (step racks (values was.took) was.collected);
}

module _ {T : Type 0} where
  pub took_none : (e : TakeView T) → e ≡ took_on e []
  took_none e = ap (take_end e.lane) (sym (append-nil e.taken))

  pub took_next : (e0 e e' : TakeView T) (more : List (Item T)) (x : Item T) → e ≡ took_on e0 more → e' ≡ with_taken e x
      → e' ≡ took_on e0 (more ++ x ∷ [])
  took_next e0 e e' more x was now = now ∙ (ap (λ (u : TakeView T). with_taken u x) was
      ∙ ap (take_end e0.lane) (append_assoc e0.taken more (x ∷ [])))

pub left_begins : (jobs : TakeView Job) (c : Held) (f : Option CollectFault) → TookLeft jobs 0 c f jobs c f
left_begins jobs c f = record {
  more = [];
  own = [];
  jobs_is = took_none jobs;
  count_is = refl;
  answered = tt;
  collected = nothing_more c f;
}

pub left_next : (jobs j j' : TakeView Job) (n : ℕ) (c c1 c2 : Held) (f f1 f2 : Option CollectFault) (x : Item Job) (own : List Replied)
    → TookLeft jobs n c f j c1 f1 → j' ≡ with_taken j x
    → AreReplies (values (x ∷ [])) own → HasMore c1 f1 own c2 f2 → TookLeft jobs (n + 1) c f j' c2 f2
left_next jobs j j' n c c1 c2 f f1 f2 x own was now one step = record {
  more = was.more ++ x ∷ [];
  own = was.own ++ own;
  jobs_is = took_next jobs j j' was.more x was.jobs_is now;
  count_is = length_push was.more x ∙ ap (λ k. k + 1) was.count_is;
  answered = subst (λ l. AreReplies l (was.own ++ own)) (sym (values-append was.more (x ∷ [])))
      (replies_append (values was.more) (values (x ∷ [])) was.own own was.answered one);
  collected = more_and_more c c1 c2 f f1 f2 was.own own was.collected step;
}

pub replies_next : (desk e e' : TakeView Replied) (n : ℕ) (c c1 c2 : Held) (f f1 f2 : Option CollectFault) (x : Item Replied)
    → TookReplies desk n c f e c1 f1 → e' ≡ with_taken e x → HasMore c1 f1 (values (x ∷ [])) c2 f2 → TookReplies desk (n + 1) c f e' c2 f2
replies_next desk e e' n c c1 c2 f f1 f2 x was now step = record {
  more = was.more ++ x ∷ [];
  desk_is = took_next desk e e' was.more x was.desk_is now;
  count_is = length_push was.more x ∙ ap (λ k. k + 1) was.count_is;
  collected = subst (λ l. HasMore c f l c2 f2) (sym (values-append was.more (x ∷ [])))
      (more_and_more c c1 c2 f f1 f2 (values was.more) (values (x ∷ [])) was.collected step);
}

pub collected_racks : (racks : List (List (List Order))) (c : Held) (f : Option CollectFault) (xs : List Replied) → HasHeld racks c f xs
    → c.racks ≡ racks
collected_racks racks c None xs h = h.racks_is
collected_racks racks c (Some fault) xs h = h.gathered.racks_is

-- the last take end took more
pub job_ends_whole : (put : List (PutView Job)) (rest : List (TakeView Job)) (last : TakeView Job) (more : List (Item Job))
    → AreAllEnds put (rest ++ last ∷ []) → AreAllEnds put (rest ++ took_on last more ∷ [])
job_ends_whole put rest last more all =
    let same : length (rest ++ took_on last more ∷ []) ≡ length (rest ++ last ∷ []) =
    length_push rest (took_on last more) ∙ sym (length_push rest last) in
    record {
      lane = all.lane;
      all = ap (λ n. length put + n) same ∙ all.all;
      some_put = all.some_put;
      each_put = all.each_put;
      each_take = λ s e at. ⊎_elim
          (λ was. all.each_take s e (at_front rest (last ∷ []) s e was))
          (λ (new : (s ≡ length rest) × (took_on last more ≡ e)). ap (λ (u : TakeView Job). u.lane) (sym new.1)
          ∙ all.each_take (length rest + 0) last (at_back rest (last ∷ []) 0 last refl (length rest + 0) refl))
          (at_snoc_or rest (took_on last more) e s at);
    }

pub desk_whole : (replies : List (PutView Replied)) (desk : TakeView Replied) (more : List (Item Replied)) → AreAllEnds replies (desk ∷ [])
    → AreAllEnds replies (took_on desk more ∷ [])
desk_whole replies desk more all = record {
  lane = all.lane;
  all = all.all;
  some_put = all.some_put;
  each_put = all.each_put;
  each_take = λ s e at. only s e at;
}
  where
    only : (s : ℕ) (e : TakeView Replied) → get_elem? (took_on desk more ∷ []) s ≡ some e → e.lane ≡ all.lane
    only zero e at = ap (λ (u : TakeView Replied). u.lane) (sym (some-injective _ _ at)) ∙ all.each_take 0 desk refl
    only (suc s) e at = absurd (some-ne-none e (sym at))

-- both lanes were settled, and nothing is left in them
pub finishes : (racks : List (List (List Order))) (put : List (PutView Job)) (jobs rest : List (TakeView Job))
    (replies : List (PutView Replied)) (desk desk' : TakeView Replied) (last last' : TakeView Job) (c c1 c2 : Held)
    (f f1 f2 : Option CollectFault) (missing left replied taken_replies put_jobs taken_jobs p t p' t' : ℕ)
    → HasJoined racks put jobs replies desk c f → jobs ≡ rest ++ last ∷ []
    → TookReplies desk missing c f desk' c1 f1 → TookLeft last left c1 f1 last' c2 f2
    → replied ≡ sum_by (λ (e : PutView Replied). length e.put) replies → taken_replies ≤ length desk.taken
    → replied ≤ taken_replies + missing
    → put_jobs ≡ sum_by (λ (e : PutView Job). length e.put) put → taken_jobs ≤ sum_by (λ (e : TakeView Job). length e.taken) jobs
    → put_jobs ≤ taken_jobs + left
    → IsSettled p t (puts_of put) (takes_of (rest ++ last' ∷ [])) → IsSettled p' t' (puts_of replies) (takes_of (desk' ∷ []))
    → HasOneEach c2.racks c2 f2 × (c2.racks ≡ racks)
finishes racks put jobs rest replies desk desk' last last' c c1 c2 f f1 f2 missing left replied taken_replies put_jobs taken_jobs p t p' t'
    joined jobs_are took_replies took_left is_replied le_taken enough_replies is_put le_jobs enough_jobs settled settled' =
    let P = IsDrawnAt joined.drawn in
    let ran : Ran P joined.count put rest last last' took_left.more took_left.own replies desk' = record {
      once = joined.put_drawn.once;
      all_put = joined.put_drawn.right;
      answered = subst (λ l. AllZip HasAnswered l replies) jobs_are joined.answered;
      more_taken = ap (λ (u : TakeView Job). u.taken) took_left.jobs_is;
      own_replies = took_left.answered;
      put_jobs = p;
      taken_jobs = t;
      jobs_settled = settled;
      jobs_taken =
          let g : TakeView Job → ℕ = λ e. length e.taken in
          let a = sum_by-append g rest (last ∷ []) in
          let b = sum_by-append g rest (last' ∷ []) in
          let d = sum_by-cons g last [] in
          let e = sum_by-cons g last' [] in
          let h = ap (sum_by g) jobs_are in
          let i = ap (λ (u : TakeView Job). length u.taken) took_left.jobs_is in
          let j = length-append last.taken took_left.more in
          let k = took_left.count_is in
          omega arith;
      put_replies = p';
      taken_replies = t';
      replies_settled = settled';
      replies_taken =
          let g : TakeView Replied → ℕ = λ e. length e.taken in
          let e = sum_by-cons g desk' [] in
          let i = ap (λ (u : TakeView Replied). length u.taken) took_replies.desk_is in
          let j = length-append desk.taken took_replies.more in
          let k = took_replies.count_is in
          omega arith;
    } in
    let vals : values desk'.taken ≡ values desk.taken ++ values took_replies.more =
    ap (λ (u : TakeView Replied). values u.taken) took_replies.desk_is ∙ values-append desk.taken took_replies.more in
    let got : HasHeld racks c2 f2 (values desk'.taken ++ took_left.own) =
    subst (λ l. HasHeld racks c2 f2 (l ++ took_left.own)) (sym vals)
    (took_left.collected racks (values desk.taken ++ values took_replies.more)
    (took_replies.collected racks (values desk.taken) joined.collected)) in
    let same : c2.racks ≡ racks = collected_racks racks c2 f2 (values desk'.taken ++ took_left.own) got in
    let all : HasOneEach racks c2 f2 = record {
      count = joined.count;
      drawn = joined.drawn;
      all_drawn = joined.put_drawn.all_drawn;
      replies = values desk'.taken ++ took_left.own;
      collected = got;
      each = one_each P joined.count put rest last last' took_left.more took_left.own replies desk' ran;
      right = each_is_so P joined.count put rest last last' took_left.more took_left.own replies desk' ran;
    } in
    (subst (λ r. HasOneEach r c2 f2) (sym same) all, same)
