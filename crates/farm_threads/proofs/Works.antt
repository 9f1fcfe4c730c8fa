-- A worker goes on.
use Rattle.std.proofs.Common.{◌≡◌, ℕ, List, [], ◌∷◌, ◌++◌, length, false, refl, sym, ap, ◌∙◌, subst, append-nil}
use Rattle.std.specs.List.{AllZip}
use Rattle.farm_lanes.specs.declared.lane.item.Item.{Item}
use Rattle.farm_lanes.specs.declared.lane.item.Item.TheVariants.{End}
use Rattle.list_members.proofs.Lists.{each_snoc}
use Rattle.farm_lanes.proofs.Values.{values-append}
use Rattle.list_members.specs.Lists.{Each}
use Rattle.farm_lanes.specs.LaneEnds.{PutView, TakeView, LaneName, put_end, take_end, with_put, with_taken, IsUnusedPut, IsUnusedTake}
use mathlib.Core.Option.{some-ne-none}
use Rattle.farm_lanes.specs.LaneRecord.{is_end, values}
use Rattle.farm_threads.specs.declared.jobs.Job.{Job}
use Rattle.farm_threads.specs.declared.jobs.Job.TheVariants.{Solve, Stop}
use Rattle.farm_threads.specs.Replies.{Replied}
use Rattle.farm_threads.specs.Jobs.{solves, IsReplyTo, AreReplies, HasWorked, SaysStop}

pub zip_append : {A B : Type 0} (R : A → B → Type 0) (xs xs' : List A) (ys ys' : List B) → AllZip R xs ys → AllZip R xs' ys'
    → AllZip R (xs ++ xs') (ys ++ ys')
zip_append R [] xs' [] ys' all more = more
zip_append R [] xs' (y ∷ ys) ys' all more = absurd all
zip_append R (x ∷ xs) xs' [] ys' all more = absurd all
zip_append R (x ∷ xs) xs' (y ∷ ys) ys' all more = (all.0, zip_append R xs xs' ys ys' all.1 more)

pub solves-append : (xs ys : List Job) → solves (xs ++ ys) ≡ solves xs ++ solves ys
solves-append [] ys = refl
solves-append (Solve a b q ∷ xs) ys = ap (λ l. Solve a b q ∷ l) (solves-append xs ys)
solves-append (Stop ∷ xs) ys = solves-append xs ys

pub replies_append : (js js' : List Job) (rs rs' : List Replied) → AreReplies js rs → AreReplies js' rs'
    → AreReplies (js ++ js') (rs ++ rs')
replies_append js js' rs rs' was more = subst (λ l. AllZip IsReplyTo l (rs ++ rs')) (sym (solves-append js js'))
    (zip_append IsReplyTo (solves js) (solves js') rs rs' was more)

module _ {T : Type 0} where
  pub taken_more : (e e' : TakeView T) (lane : LaneName T) (ys : List (Item T)) (x : Item T) → e ≡ take_end lane ys → e' ≡ with_taken e x
      → e' ≡ take_end lane (ys ++ x ∷ [])
  taken_more e e' lane ys x was more = more ∙ ap (λ (u : TakeView T). with_taken u x) was

  pub put_more : (e e' : PutView T) (lane : LaneName T) (s : ℕ) (xs : List (Item T)) (x : Item T) → e ≡ put_end lane s xs
      → e' ≡ with_put e x → e' ≡ put_end lane s (xs ++ x ∷ [])
  put_more e e' lane s xs x was more = more ∙ ap (λ (u : PutView T). with_put u x) was

-- with these ends, unused at first, a worker took some items, and put one reply to each job that it took, in that order
pub record IsWorking (jobs : TakeView Job) (replies : PutView Replied) (jobs_now : TakeView Job)
    (replies_now : PutView Replied) : Type 0 where
  pub took : List (Item Job)
  pub put : List (Item Replied)
  pub only_values : Each (λ x. is_end x ≡ false) put
  pub answered : AreReplies (values took) (values put)
  pub jobs_is : jobs_now ≡ take_end jobs.lane took
  pub replies_is : replies_now ≡ put_end replies.lane replies.sender put

module _ (jobs : TakeView Job) (replies : PutView Replied) where
  pub work_begins : IsUnusedTake jobs → IsUnusedPut replies → IsWorking jobs replies jobs replies
  work_begins a b = record {
    took = [];
    put = [];
    only_values = λ k x at. absurd (some-ne-none x (sym at));
    answered = tt;
    jobs_is = a;
    replies_is = b;
  }

  -- an item was taken that asks for no reply
  pub work_passes : (j j' : TakeView Job) (r : PutView Replied) (x : Item Job) → IsWorking jobs replies j r
      → solves (values (x ∷ [])) ≡ [] → j' ≡ with_taken j x → IsWorking jobs replies j' r
  work_passes j j' r x was none more = record {
    took = was.took ++ x ∷ [];
    put = was.put;
    only_values = was.only_values;
    answered = subst (λ l. AllZip IsReplyTo l (values was.put))
        (sym (ap solves (values-append was.took (x ∷ [])) ∙ (solves-append (values was.took) (values (x ∷ []))
        ∙ (ap (λ l. solves (values was.took) ++ l) none ∙ append-nil (solves (values was.took)))))) was.answered;
    jobs_is = taken_more j j' jobs.lane was.took x was.jobs_is more;
    replies_is = was.replies_is;
  }

  -- an item was taken, and its reply put
  pub work_replies : (j j' : TakeView Job) (r r' : PutView Replied) (x : Item Job) (y : Item Replied) → IsWorking jobs replies j r
      → AreReplies (values (x ∷ [])) (values (y ∷ [])) → is_end y ≡ false → j' ≡ with_taken j x → r' ≡ with_put r y
      → IsWorking jobs replies j' r'
  work_replies j j' r r' x y was one value more more_r = record {
    took = was.took ++ x ∷ [];
    put = was.put ++ y ∷ [];
    only_values = each_snoc (λ x. is_end x ≡ false) was.put y was.only_values value;
    answered =
        let P : List Job × List Replied → Type 0 = λ p. AreReplies p.0 p.1 in
        subst P (λ i. (sym (values-append was.took (x ∷ [])) i, sym (values-append was.put (y ∷ [])) i))
        (replies_append (values was.took) (values (x ∷ [])) (values was.put) (values (y ∷ [])) was.answered one);
    jobs_is = taken_more j j' jobs.lane was.took x was.jobs_is more;
    replies_is = put_more r r' replies.lane replies.sender was.put y was.replies_is more_r;
  }

  -- the end mark was put
  pub work_ends : (j : TakeView Job) (r r' : PutView Replied) → IsWorking jobs replies j r
      → r' ≡ with_put r (End r.sender (length r.put)) → HasWorked jobs replies j r'
  work_ends j r r' was more = record {
    took = was.took;
    put = was.put;
    only_values = was.only_values;
    answered = was.answered;
    jobs_is = was.jobs_is;
    replies_is = more ∙ ap (λ (u : PutView Replied). with_put u (End u.sender (length u.put))) was.replies_is;
  }

pub goes_on : (j j' : TakeView Job) (x : Item Job) → Each (λ y. ¬ SaysStop y) j.taken → ¬ SaysStop x → j' ≡ with_taken j x
    → Each (λ y. ¬ SaysStop y) j'.taken
goes_on j j' x was other more = subst (Each (λ y. ¬ SaysStop y)) (sym (ap (λ (u : TakeView Job). u.taken) more))
    (each_snoc (λ y. ¬ SaysStop y) j.taken x was other)

pub none_stops : (j : TakeView Job) → IsUnusedTake j → Each (λ y. ¬ SaysStop y) j.taken
none_stops j unused = subst (Each (λ y. ¬ SaysStop y)) (sym (ap (λ (u : TakeView Job). u.taken) unused))
    (λ k x at. absurd (some-ne-none x (sym at)))
