-- From settled lanes to one reply for each request.
use Rattle.std.proofs.Common.{◌≡◌, ℕ, zero, suc, ◌+◌, ◌≤◌, ◌&&◌, List, [], ◌∷◌, ◌++◌, length, refl, sym, ap, subst, ⊎_elim, arith}
use Rattle.std.proofs.Common.{nat_eq, cond}
use Rattle.std.specs.Prelude.{⊤}
use Rattle.std.specs.List.{sum_by, All, AllZip}
use Rattle.std.proofs.lemmas.List.Sums.{sum_by-cons, sum_by-append}
use mathlib.Core.Option.{some, some-ne-none, some-injective}
use lib.ListN.{get_elem?}
use Rattle.lrc_code.specs.Requests.{Asked}
use Rattle.farm_lanes.specs.declared.lane.item.Item.{Item}
use Rattle.farm_lanes.specs.declared.lane.item.Item.TheVariants.{Value, End}
use Rattle.list_members.proofs.Lists.{at_snoc_or, sum_map, from_map, at_map, at_front, at_back}
use Rattle.farm_lanes.specs.LaneEnds.{PutView, TakeView, puts_of, takes_of}
use Rattle.farm_lanes.specs.LaneRecord.{values, sender_of, number_of, IsLawful}
use Rattle.farm_lanes.specs.LaneSettled.{IsSettled}
use Rattle.list_members.specs.Lists.{Each}
use Rattle.farm_threads.specs.declared.jobs.Job.{Job}
use Rattle.farm_threads.specs.declared.jobs.Job.TheVariants.{Solve, Stop}
use Rattle.farm_threads.specs.Replies.{Replied}
use Rattle.farm_threads.specs.RunFeeds.{slot_rack, slot_feed}
use Rattle.farm_threads.specs.Boards.{replies_to, AreOneEach}
use Rattle.farm_threads.specs.Jobs.{AreReplies, job_weight, reply_weight, IsSoJob, IsSoItem, IsSoReply, HasAnswered}
use Rattle.farm_lanes.specs.Counting.{once_below}

abbrev pub jobs_to : ℕ → ℕ → List Job → ℕ
jobs_to r k [] = 0
jobs_to r k (Solve a b q ∷ js) = cond (nat_eq (slot_rack a) r && nat_eq b k) 1 0 + jobs_to r k js
jobs_to r k (Stop ∷ js) = jobs_to r k js

pub weigh_jobs : (r k : ℕ) (xs : List (Item Job)) → sum_by (job_weight r k) xs ≡ jobs_to r k (values xs)
weigh_jobs r k [] = refl
weigh_jobs r k (Value s i (Solve a b q) ∷ xs) = let a' = sum_by-cons (job_weight r k) (Value s i (Solve a b q)) xs in
    let b' = weigh_jobs r k xs in omega arith
weigh_jobs r k (Value s i Stop ∷ xs) = let a' = sum_by-cons (job_weight r k) (Value s i Stop) xs in
    let b' = weigh_jobs r k xs in omega arith
weigh_jobs r k (End s i ∷ xs) = let a' = sum_by-cons (job_weight r k) (End s i) xs in let b' = weigh_jobs r k xs in omega arith

pub weigh_replies : (r k : ℕ) (xs : List (Item Replied)) → sum_by (reply_weight r k) xs ≡ replies_to r k (values xs)
weigh_replies r k [] = refl
weigh_replies r k (Value s i x ∷ xs) = let a' = sum_by-cons (reply_weight r k) (Value s i x) xs in
    let b' = weigh_replies r k xs in omega arith
weigh_replies r k (End s i ∷ xs) = let a' = sum_by-cons (reply_weight r k) (End s i) xs in let b' = weigh_replies r k xs in omega arith

-- as many replies as jobs, for each rack and number
pub replied : (r k : ℕ) (js : List Job) (rs : List Replied) → AreReplies js rs → jobs_to r k js ≡ replies_to r k rs
replied r k [] [] all = refl
replied r k [] (y ∷ ys) all = absurd all
replied r k (Stop ∷ js) rs all = replied r k js rs all
replied r k (Solve a b q ∷ js) [] all = absurd all
replied r k (Solve a b q ∷ js) (y ∷ ys) all =
    let rest = replied r k js ys all.1 in
    let same : cond (nat_eq (slot_rack y.rack) r && nat_eq y.number k) 1 0 ≡ cond (nat_eq (slot_rack a) r && nat_eq b k) 1 0 + 0 =
    rw (all.0.0, all.0.1) (omega arith) in
    omega arith

module _ {A : Type 0} where
  abbrev pub Every : (A → Type 0) → List A → Type 0
  Every P [] = ⊤
  Every P (x ∷ xs) = P x × Every P xs

  pub every_all : (P : A → Type 0) (xs : List A) → Every P xs → All P xs
  every_all P [] every k d low = absurd (omega arith)
  every_all P (x ∷ xs) every zero d low = every.0
  every_all P (x ∷ xs) every (suc k) d low = every_all P xs every.1 k d (omega arith)

  pub every_each : (P : A → Type 0) (xs : List A) → Every P xs → Each P xs
  every_each P [] every k x at = absurd (some-ne-none x (sym at))
  every_each P (y ∷ ys) every zero x at = subst P (some-injective y x at) every.0
  every_each P (y ∷ ys) every (suc k) x at = every_each P ys every.1 k x at

  pub every_append : (P : A → Type 0) (xs ys : List A) → Every P xs → Every P ys → Every P (xs ++ ys)
  every_append P [] ys a b = b
  every_append P (x ∷ xs) ys a b = (a.0, every_append P xs ys a.1 b)

pub replies_to-append : (r k : ℕ) (xs ys : List Replied) → replies_to r k (xs ++ ys) ≡ replies_to r k xs + replies_to r k ys
replies_to-append r k [] ys = omega arith
replies_to-append r k (x ∷ xs) ys = let e = replies_to-append r k xs ys in omega arith

module _ (P : ℕ → ℕ → ℕ → Asked → Type 0) where
  -- the jobs among such items are so
  pub so_jobs : (xs : List (Item Job)) → Each (IsSoItem P) xs → Every (IsSoJob P) (values xs)
  so_jobs [] each = tt
  so_jobs (Value s i job ∷ xs) each = (each 0 (Value s i job) refl, so_jobs xs (λ k. each (suc k)))
  so_jobs (End s i ∷ xs) each = so_jobs xs (λ k. each (suc k))

  -- the replies to such jobs are so
  pub so_replies : (js : List Job) (rs : List Replied) → AreReplies js rs → Every (IsSoJob P) js → Every (IsSoReply P) rs
  so_replies [] [] all so = tt
  so_replies [] (y ∷ ys) all so = absurd all
  so_replies (Stop ∷ js) rs all so = so_replies js rs all so.1
  so_replies (Solve a b q ∷ js) [] all so = absurd all
  so_replies (Solve a b q ∷ js) (y ∷ ys) all so =
      let is = all.0 in
      let Q : ℕ × ℕ × Asked → Type 0 = λ p. P (slot_rack p.0) (slot_feed p.0) p.1 p.2 in
      (subst Q (λ i. (sym is.0 i, sym is.1 i, sym is.2 i)) so.0, so_replies js ys all.1 so.1)

  abbrev pub IsSoReplyItem : Item Replied → Type 0
  IsSoReplyItem (Value s i x) = IsSoReply P x
  IsSoReplyItem (End s i) = ⊤

  -- items of which the values are so
  pub reply_items : (xs : List (Item Replied)) → Every (IsSoReply P) (values xs) → Each IsSoReplyItem xs
  reply_items [] every k x at = absurd (some-ne-none x (sym at))
  reply_items (Value s i y ∷ xs) every zero x at = subst IsSoReplyItem (some-injective _ _ at) every.0
  reply_items (Value s i y ∷ xs) every (suc k) x at = reply_items xs every.1 k x at
  reply_items (End s i ∷ xs) every zero x at = subst IsSoReplyItem (some-injective _ _ at) tt
  reply_items (End s i ∷ xs) every (suc k) x at = reply_items xs every k x at

  pub reply_values : (xs : List (Item Replied)) → Each IsSoReplyItem xs → Every (IsSoReply P) (values xs)
  reply_values [] each = tt
  reply_values (Value s i y ∷ xs) each = (each 0 (Value s i y) refl, reply_values xs (λ k. each (suc k)))
  reply_values (End s i ∷ xs) each = reply_values xs (λ k. each (suc k))

  -- items of jobs that are so
  pub job_items : (xs : List (Item Job)) → Every (IsSoJob P) (values xs) → Each (IsSoItem P) xs
  job_items [] every k x at = absurd (some-ne-none x (sym at))
  job_items (Value s i y ∷ xs) every zero x at = subst (IsSoItem P) (some-injective _ _ at) every.0
  job_items (Value s i y ∷ xs) every (suc k) x at = job_items xs every.1 k x at
  job_items (End s i ∷ xs) every zero x at = subst (IsSoItem P) (some-injective _ _ at) tt
  job_items (End s i ∷ xs) every (suc k) x at = job_items xs every k x at

  -- the replies of all workers are so
  pub all_so : (takers : List (TakeView Job)) (ended : List (PutView Replied)) → AllZip HasAnswered takers ended
      → ((t : ℕ) (e : TakeView Job) → get_elem? takers t ≡ some e → Each (IsSoItem P) e.taken)
      → (s : ℕ) (e : PutView Replied) → get_elem? ended s ≡ some e → Each IsSoReplyItem e.put
  all_so [] [] all so s e at = absurd (some-ne-none e (sym at))
  all_so [] (w ∷ ws) all so s e at = absurd all
  all_so (t ∷ ts) [] all so s e at = absurd all
  all_so (t ∷ ts) (w ∷ ws) all so zero e at =
      subst (λ (x : PutView Replied). Each IsSoReplyItem x.put) (some-injective _ _ at)
      (reply_items w.put (so_replies (values t.taken) (values w.put) all.0 (so_jobs t.taken (so 0 t refl))))
  all_so (t ∷ ts) (w ∷ ws) all so (suc s) e at = all_so ts ws all.1 (λ j. so (suc j)) s e at

module _ {T : Type 0} where
  -- what holds of all that was put holds of all that was taken
  pub taken_have : (puts takes : List (List (Item T))) (prefix : ℕ → ℕ) → IsLawful puts takes prefix → (P : Item T → Type 0)
      → ((s : ℕ) (xs : List (Item T)) → get_elem? puts s ≡ some xs → Each P xs) → (t : ℕ) (ys : List (Item T)) → get_elem? takes t ≡ some ys
      → Each P ys
  taken_have puts takes prefix lawful P all t ys here i y at = let u =
      lawful.unaltered t ys here i y at in all (sender_of y) u.0 u.1 (number_of y) y u.2

  -- where as much was taken as was put, the weights are the same
  pub all_weighed : (put taken : ℕ) (ended : List (PutView T)) (takers : List (TakeView T))
      → IsSettled put taken (puts_of ended) (takes_of takers)
      → sum_by (λ (e : PutView T). length e.put) ended ≤ sum_by (λ (e : TakeView T). length e.taken) takers → (g : Item T → ℕ)
      → sum_by (λ (e : PutView T). sum_by g e.put) ended ≡ sum_by (λ (e : TakeView T). sum_by g e.taken) takers
  all_weighed put taken ended takers settled enough g =
      let a = sum_map {B = List (Item T)} (λ xs. sum_by g xs) (λ (e : PutView T). e.put) ended in
      let b = sum_map {B = List (Item T)} (λ xs. sum_by g xs) (λ (e : TakeView T). e.taken) takers in
      let c = sum_map {B = List (Item T)} length (λ (e : PutView T). e.put) ended in
      let d = sum_map {B = List (Item T)} length (λ (e : TakeView T). e.taken) takers in
      let ones = settled.weights (λ _. 1) in
      let a1 = sum_map {B = List (Item T)} (λ xs. sum_by (λ _. 1) xs) (λ (e : PutView T). e.put) ended in
      let b1 = sum_map {B = List (Item T)} (λ xs. sum_by (λ _. 1) xs) (λ (e : TakeView T). e.taken) takers in
      let p1 = same_sums (λ (e : PutView T). e.put) ended in
      let t1 = same_sums (λ (e : TakeView T). e.taken) takers in
      let same : taken ≡ put = (let p = settled.put_is in let q = settled.taken_is in omega arith) in
      let none : sum_by g settled.left ≡ 0 = ap (sum_by g) (settled.none_left same) in
      let all = settled.weights g in
      omega arith
    where
      ones_of : (xs : List (Item T)) → sum_by (λ _. 1) xs ≡ length xs
      ones_of [] = refl
      ones_of (x ∷ xs) = let a = sum_by-cons (λ (_ : Item T). 1) x xs in let b = ones_of xs in omega arith

      same_sums : {E : Type 0} (f : E → List (Item T)) (es : List E)
          → sum_by (λ e. sum_by (λ _. 1) (f e)) es ≡ sum_by (λ e. length (f e)) es
      same_sums f [] = refl
      same_sums f (e ∷ es) = let a = sum_by-cons (λ e. sum_by (λ _. 1) (f e)) e es in let b = sum_by-cons (λ e. length (f e)) e es in
          let c = same_sums f es in let d = ones_of (f e) in omega arith

-- what all workers took, they replied to
pub all_replied : (r k : ℕ) (takers : List (TakeView Job)) (ended : List (PutView Replied)) → AllZip HasAnswered takers ended
    → sum_by (λ (e : TakeView Job). sum_by (job_weight r k) e.taken) takers
    ≡ sum_by (λ (e : PutView Replied). sum_by (reply_weight r k) e.put) ended
all_replied r k [] [] all = refl
all_replied r k [] (w ∷ ws) all = absurd all
all_replied r k (t ∷ ts) [] all = absurd all
all_replied r k (t ∷ ts) (w ∷ ws) all =
    let a = sum_by-cons (λ (e : TakeView Job). sum_by (job_weight r k) e.taken) t ts in
    let b = sum_by-cons (λ (e : PutView Replied). sum_by (reply_weight r k) e.put) w ws in
    let c = all_replied r k ts ws all.1 in
    let d = weigh_jobs r k t.taken in
    let e = weigh_replies r k w.put in
    let f = replied r k (values t.taken) (values w.put) all.0 in
    omega arith

-- what a run knows when all threads were joined, all left was taken and both lanes were settled
pub record Ran (P : ℕ → ℕ → ℕ → Asked → Type 0) (count : ℕ → ℕ) (ended : List (PutView Job)) (takers : List (TakeView Job))
    (last last_left : TakeView Job) (more : List (Item Job)) (own : List Replied) (replied : List (PutView Replied))
    (desk : TakeView Replied) : Type 0 where
  pub once : (r k : ℕ) → sum_by (λ (e : PutView Job). sum_by (job_weight r k) e.put) ended ≡ once_below k (count r)
  pub all_put : Each (λ e. Each (IsSoItem P) e.put) ended
  pub answered : AllZip HasAnswered (takers ++ last ∷ []) replied
  pub more_taken : last_left.taken ≡ last.taken ++ more
  pub own_replies : AreReplies (values more) own
  pub put_jobs : ℕ
  pub taken_jobs : ℕ
  pub jobs_settled : IsSettled put_jobs taken_jobs (puts_of ended) (takes_of (takers ++ last_left ∷ []))
  pub jobs_taken : sum_by (λ (e : PutView Job). length e.put) ended ≤ sum_by (λ (e : TakeView Job). length e.taken)
      (takers ++ last_left ∷ [])
  pub put_replies : ℕ
  pub taken_replies : ℕ
  pub replies_settled : IsSettled put_replies taken_replies (puts_of replied) (takes_of (desk ∷ []))
  pub replies_taken : sum_by (λ (e : PutView Replied). length e.put) replied ≤ sum_by (λ (e : TakeView Replied). length e.taken) (desk ∷ [])

module _ (P : ℕ → ℕ → ℕ → Asked → Type 0) (count : ℕ → ℕ) (ended : List (PutView Job)) (takers : List (TakeView Job))
    (last last_left : TakeView Job) (more : List (Item Job)) (own : List Replied) (replies : List (PutView Replied))
    (desk : TakeView Replied)
    (ran : Ran P count ended takers last last_left more own replies desk) where
  pub one_each : AreOneEach count (values desk.taken ++ own)
  one_each r k =
      let f : TakeView Job → ℕ = λ e. sum_by (job_weight r k) e.taken in
      let g : PutView Replied → ℕ = λ e. sum_by (reply_weight r k) e.put in
      let a = replies_to-append r k (values desk.taken) own in
      let b = weigh_replies r k desk.taken in
      let c = all_weighed ran.put_replies ran.taken_replies replies (desk ∷ []) ran.replies_settled ran.replies_taken (reply_weight r k) in
      let d = sum_by-cons (λ (e : TakeView Replied). sum_by (reply_weight r k) e.taken) desk [] in
      let e = all_replied r k (takers ++ last ∷ []) replies ran.answered in
      let h = sum_by-append f takers (last ∷ []) in
      let i = sum_by-append f takers (last_left ∷ []) in
      let j = sum_by-cons f last [] in
      let l = sum_by-cons f last_left [] in
      let m = ap (sum_by (job_weight r k)) ran.more_taken in
      let n = sum_by-append (job_weight r k) last.taken more in
      let o = weigh_jobs r k more in
      let p = replied r k (values more) own ran.own_replies in
      let q = all_weighed ran.put_jobs ran.taken_jobs ended (takers ++ last_left ∷ []) ran.jobs_settled ran.jobs_taken (job_weight r k) in
      let u = ran.once r k in
      omega arith

  jobs_so : (t : ℕ) (ys : List (Item Job)) → get_elem? (takes_of (takers ++ last_left ∷ [])) t ≡ some ys → Each (IsSoItem P) ys
  jobs_so = taken_have (puts_of ended) (takes_of (takers ++ last_left ∷ [])) ran.jobs_settled.prefix ran.jobs_settled.lawful (IsSoItem P)
      (λ s xs at. let u = from_map (λ (e : PutView Job). e.put) ended s xs at in subst (Each (IsSoItem P)) u.2 (ran.all_put s u.0 u.1))

  last_so : (e : TakeView Job) → e ≡ last_left → Each (IsSoItem P) e.taken
  last_so e same = subst (λ (x : TakeView Job). Each (IsSoItem P) x.taken) (sym same)
      (jobs_so (length takers + 0) last_left.taken (at_map (λ (x : TakeView Job). x.taken) (takers ++ last_left ∷ [])
      (length takers + 0) last_left (at_back takers (last_left ∷ []) 0 last_left refl (length takers + 0) refl)))

  parts_so : Each (IsSoItem P) (last.taken ++ more)
  parts_so = subst (Each (IsSoItem P)) ran.more_taken (last_so last_left refl)

  each_so : (t : ℕ) (e : TakeView Job) → get_elem? (takers ++ last ∷ []) t ≡ some e → Each (IsSoItem P) e.taken
  each_so t e at = ⊎_elim
      (λ was. jobs_so t e.taken (at_map (λ (x : TakeView Job). x.taken) (takers ++ last_left ∷ []) t e
      (at_front takers (last_left ∷ []) t e was)))
      (λ (new : (t ≡ length takers) × (last ≡ e)). subst (λ (x : TakeView Job). Each (IsSoItem P) x.taken) new.1
      (λ i y there. parts_so i y (at_front last.taken more i y there)))
      (at_snoc_or takers last e t at)

  desk_so : Each (IsSoReplyItem P) desk.taken
  desk_so = taken_have (puts_of replies) (takes_of (desk ∷ [])) ran.replies_settled.prefix ran.replies_settled.lawful (IsSoReplyItem P)
      (λ s xs at. let u = from_map (λ (e : PutView Replied). e.put) replies s xs at in subst (Each (IsSoReplyItem P)) u.2
      (all_so P (takers ++ last ∷ []) replies ran.answered each_so s u.0 u.1))
      0 desk.taken refl

  own_so : Every (IsSoReply P) own
  own_so = so_replies P (values more) own ran.own_replies
      (so_jobs P more (λ i y there. parts_so (length last.taken + i) y (at_back last.taken more i y there (length last.taken + i) refl)))

  pub each_is_so : Each (IsSoReply P) (values desk.taken ++ own)
  each_is_so = every_each (IsSoReply P) (values desk.taken ++ own)
      (every_append (IsSoReply P) (values desk.taken) own (reply_values P desk.taken desk_so) own_so)
