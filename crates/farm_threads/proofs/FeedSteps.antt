-- A feeder goes on.
use Rattle.std.proofs.Common.{◌≡◌, ℕ, zero, suc, ◌+◌, ◌<◌, ◌≤◌, List, [], ◌∷◌, ◌++◌, length, take, drop, get_or, Option, Some, None, Bool}
use Rattle.std.proofs.Common.{false, refl, sym, ap, ◌∙◌, subst, ⊎_elim, arith}
use Rattle.std.specs.List.{All}
use Rattle.std.proofs.lemmas.List.{drop_more, length_push, get_or_append_left, get_or_push}
use Rattle.std.proofs.Common.{below_more}
use mathlib.Core.Option.{some, some-ne-none, some-injective}
use lib.ListN.{get_elem?}
use Rattle.lrc_code.specs.Requests.{Asked}
use Rattle.farm_lanes.specs.declared.lane.item.Item.{Item}
use Rattle.farm_lanes.specs.declared.gate.record.SeatRecord.{SeatRecord}
use Rattle.farm_lanes.specs.declared.lane.item.Item.TheVariants.{End}
use Rattle.list_members.proofs.Lists.{at_below, at_snoc_or, each_snoc}
use Rattle.farm_lanes.proofs.Values.{values-append}
use Rattle.farm_lanes.specs.GateView.{GateName, SeatView, GateId}
use Rattle.farm_lanes.specs.LaneEnds.{PutView, put_end, with_put}
use Rattle.farm_lanes.specs.LaneRecord.{is_end, values}
use Rattle.list_members.specs.Lists.{Each}
use Rattle.farm_lanes.specs.SeatChanges.{accepted, made_close, missed_close}
use Rattle.farm_lanes.specs.declared.gate.AlreadyClosed.{AlreadyClosed}
use Rattle.std.specs.Prelude.{Result, Ok, Err, MatchResult}
use Rattle.std.specs.Result.{result_ok}
use Rattle.farm_orders.specs.declared.orders.Order.{Order}
use Rattle.farm_orders.specs.declared.orders.Order.TheVariants.{Rebuild}
use Rattle.farm_threads.specs.declared.jobs.Job.{Job}
use Rattle.farm_threads.specs.declared.jobs.Job.TheVariants.{Solve, Stop}
use Rattle.farm_orders.specs.Orders.{before_close, HasClose}
use Rattle.farm_threads.specs.Jobs.{IsOfSlot, numbers_of, requests_of}
use Rattle.farm_threads.specs.Feed.{HasFed, CountUp, AreRising, IsMade, IsRightLeft, refused_draws}
use Rattle.farm_threads.proofs.Works.{put_more}

-- a job was put for each of the first i requests
pub record IsFeeding (total : ℕ) (seat : SeatView) (slot : ℕ) (requests : List Asked) (jobs : PutView Job) (i : ℕ) (seat' : SeatView)
    (jobs' : PutView Job) : Type 0 where
  pub put : List (Item Job)
  pub only_values : Each (λ x. is_end x ≡ false) put
  pub jobs_is : jobs' ≡ put_end jobs.lane jobs.sender put
  pub slots_are : All (IsOfSlot slot) (values put)
  pub count : length (values put) ≡ i
  pub long : length put ≡ i
  pub requests_are : requests_of (values put) ≡ take i requests
  pub numbers_are : seat'.has.numbers ≡ numbers_of (values put)
  pub numbers_count : length (numbers_of (values put)) ≡ i
  pub rising : AreRising (numbers_of (values put))
  pub lone : seat.has.share ≡ total → CountUp (numbers_of (values put))
  pub gate_is : seat'.gate ≡ seat.gate
  pub share_is : seat'.has.share ≡ seat.has.share
  pub within : i ≤ length requests
  pub draws_are : seat'.has.draws ≡ seat.has.draws + i
  pub held_is : seat'.has.held ≡ seat.has.held
  pub kept : (seat'.has.used ≡ seat.has.used) × (seat'.has.made ≡ seat.has.made) × (seat'.has.knows ≡ false)

module _ {A : Type 0} where
  pub all_push : (P : A → Type 0) (xs : List A) (x : A) → All P xs → P x → All P (xs ++ x ∷ [])
  all_push P xs x all one k d low =
      let len : length (xs ++ x ∷ []) ≡ length xs + 1 = length_push xs x in
      below_more (λ i. P (get_or (xs ++ x ∷ []) i d)) (length xs)
      (λ i below. subst P (sym (get_or_append_left xs (x ∷ []) d i below)) (all i d below))
      (subst P (sym (get_or_push xs x d (length xs) refl)) one) k (omega arith)

  take_next : (i : ℕ) (xs : List A) (x : A) (rest : List A) → drop i xs ≡ x ∷ rest → take (i + 1) xs ≡ take i xs ++ x ∷ []
  take_next zero [] x rest is = absurd (cc)
  take_next (suc i) [] x rest is = absurd (cc)
  take_next zero (y ∷ ys) x rest is = ap (λ l. take 1 l) is
  take_next (suc i) (y ∷ ys) x rest is = let more : suc i + 1 ≡ suc (i + 1) =
      omega arith in ap (λ n. take n (y ∷ ys)) more ∙ ap (λ l. y ∷ l) (take_next i ys x rest is)

  drop_some : (i : ℕ) (xs : List A) (x : A) (rest : List A) → drop i xs ≡ x ∷ rest → i + 1 ≤ length xs
  drop_some zero [] x rest is = absurd (cc)
  drop_some (suc i) [] x rest is = absurd (cc)
  drop_some zero (y ∷ ys) x rest is = omega arith
  drop_some (suc i) (y ∷ ys) x rest is = let r = drop_some i ys x rest is in omega arith

requests_append : (xs ys : List Job) → requests_of (xs ++ ys) ≡ requests_of xs ++ requests_of ys
requests_append [] ys = refl
requests_append (Solve a b q ∷ xs) ys = ap (λ l. q.now ∷ l) (requests_append xs ys)
requests_append (Stop ∷ xs) ys = requests_append xs ys

numbers_append : (xs ys : List Job) → numbers_of (xs ++ ys) ≡ numbers_of xs ++ numbers_of ys
numbers_append [] ys = refl
numbers_append (Solve a b q ∷ xs) ys = ap (λ l. b ∷ l) (numbers_append xs ys)
numbers_append (Stop ∷ xs) ys = numbers_append xs ys

below_at : (ns : List ℕ) (n x j : ℕ) → All (λ m. m < n) ns → get_elem? ns j ≡ some x → x < n
below_at [] n x j below at = absurd (some-ne-none x (sym at))
below_at (m ∷ ns) n x zero below at = subst (λ k. k < n) (some-injective m x at) (below 0 m (omega arith))
below_at (m ∷ ns) n x (suc j) below at = below_at ns n x j (λ i d low. below (suc i) d (omega arith)) at

-- the next order is a request
next_here : (orders : List Order) (i : ℕ) (r : Asked) (d : Order) → i < length orders → get_or orders i d ≡ Rebuild r
    → before_close (drop i orders) ≡ drop i (before_close orders) → drop i (before_close orders) ≡ r ∷ before_close (drop (i + 1) orders)
next_here orders i r d low is along = sym along ∙ ap before_close (drop_more orders i d low)
    ∙ ap (λ (x : Order). before_close (x ∷ drop (i + 1) orders)) is

-- a number was drawn, and the job put
pub feed_more : (total : ℕ) (seat : SeatView) (slot : ℕ) (orders : List Order) (jobs : PutView Job) (i : ℕ) (s s' : SeatView)
    (e e' : PutView Job) (number : ℕ) (job : Job) (r : Asked) (d : Order) (x : Item Job)
    → IsFeeding total seat slot (before_close orders) jobs i s e → before_close (drop i orders) ≡ drop i (before_close orders)
    → i < length orders → get_or orders i d ≡ Rebuild r
    → s'.gate ≡ s.gate → s'.has ≡ accepted s.has number → All (λ n. n < number) s.has.numbers
    → (s.has.share ≡ total → number ≡ length s.has.numbers)
    → values (x ∷ []) ≡ job ∷ [] → is_end x ≡ false → IsOfSlot slot job → numbers_of (job ∷ []) ≡ number ∷ []
    → requests_of (job ∷ []) ≡ r ∷ [] → e' ≡ with_put e x
    → IsFeeding total seat slot (before_close orders) jobs (i + 1) s' e'
feed_more total seat slot orders jobs i s s' e e' number job r d x was along low is gate has above lone says value of_slot number_is
    request_is more =
    let vals : values (was.put ++ x ∷ []) ≡ values was.put ++ job ∷ [] =
    values-append was.put (x ∷ []) ∙ ap (λ l. values was.put ++ l) says in
    let nums : numbers_of (values (was.put ++ x ∷ [])) ≡ numbers_of (values was.put) ++ number ∷ [] =
    ap numbers_of vals ∙ (numbers_append (values was.put) (job ∷ []) ∙ ap (λ l. numbers_of (values was.put) ++ l) number_is) in
    let reqs : requests_of (values (was.put ++ x ∷ [])) ≡ requests_of (values was.put) ++ r ∷ [] =
    ap requests_of vals ∙ (requests_append (values was.put) (job ∷ []) ∙ ap (λ l. requests_of (values was.put) ++ l) request_is) in
    record {
      put = was.put ++ x ∷ [];
      only_values = each_snoc (λ x. is_end x ≡ false) was.put x was.only_values value;
      jobs_is = put_more e e' jobs.lane jobs.sender was.put x was.jobs_is more;
      slots_are = subst (λ l. All (IsOfSlot slot) l) (sym vals) (all_push (IsOfSlot slot) (values was.put) job was.slots_are of_slot);
      count = ap (λ (l : List Job). length l) vals ∙ (length_push (values was.put) job ∙ ap (λ n. n + 1) was.count);
      long = length_push was.put x ∙ ap (λ n. n + 1) was.long;
      requests_are = reqs ∙ (ap (λ l. l ++ r ∷ []) was.requests_are
          ∙ sym (take_next i (before_close orders) r (before_close (drop (i + 1) orders)) (next_here orders i r d low is along)));
      numbers_are = ap (λ (q : SeatRecord). q.numbers) has ∙ (ap (λ l. l ++ number ∷ []) was.numbers_are ∙ sym nums);
      numbers_count = ap (λ (l : List ℕ). length l) nums ∙ (length_push (numbers_of (values was.put)) number
          ∙ ap (λ n. n + 1) was.numbers_count);
      rising = subst AreRising (sym nums) (rise_more (numbers_of (values was.put)) number was.rising
          (subst (λ l. All (λ n. n < number) l) was.numbers_are above));
      lone = λ all. subst CountUp (sym nums) (one_more (numbers_of (values was.put)) number (was.lone all)
          (lone (was.share_is ∙ all) ∙ ap (λ (l : List ℕ). length l) was.numbers_are));
      gate_is = gate ∙ was.gate_is;
      share_is = ap (λ (q : SeatRecord). q.share) has ∙ was.share_is;
      within = drop_some i (before_close orders) r (before_close (drop (i + 1) orders)) (next_here orders i r d low is along);
      draws_are = let a = ap (λ (q : SeatRecord). q.draws) has in let b = was.draws_are in omega arith;
      held_is = ap (λ (q : SeatRecord). q.held) has ∙ was.held_is;
      kept = (
        ap (λ (q : SeatRecord). q.used) has ∙ was.kept.0,
        ap (λ (q : SeatRecord). q.made) has
            ∙ was.kept.1,
        ap (λ (q : SeatRecord). q.knows) has ∙ was.kept.2,
      );
    }
  where
    rise_more : (ns : List ℕ) (n : ℕ) → AreRising ns → All (λ m. m < n) ns → AreRising (ns ++ n ∷ [])
    rise_more ns n up below j k x y less at_j at_k =
        ⊎_elim
        (λ old. ⊎_elim (λ old'. up j k x y less old' old)
        (λ (new : (j ≡ length ns) × (n ≡ x)). absurd (let a = at_below ns k y old in let b = new.0 in omega arith))
        (at_snoc_or ns n x j at_j))
        (λ (new : (k ≡ length ns) × (n ≡ y)).
        ⊎_elim (λ old'. subst (λ m. x < m) new.1 (below_at ns n x j below old'))
        (λ (new' : (j ≡ length ns) × (n ≡ x)). absurd (let a = new.0 in let b = new'.0 in omega arith)) (at_snoc_or ns n x j at_j))
        (at_snoc_or ns n y k at_k)

    one_more : (ns : List ℕ) (n : ℕ) → CountUp ns → n ≡ length ns → CountUp (ns ++ n ∷ [])
    one_more ns n up is k y at = ⊎_elim (λ old. up k y old) (λ (new : (k ≡ length ns) × (n ≡ y)). sym new.1 ∙ (is ∙ sym new.0))
        (at_snoc_or ns n y k at)

-- the feeder ends
pub feed_ends : (gate : GateName) (seat : SeatView) (slot : ℕ) (list : List Order) (jobs : PutView Job) (i : ℕ) (s s' : SeatView)
    (e e' : PutView Job) (right : Option GateId) (close : Option ℕ)
    → IsFeeding gate.size.total seat slot (before_close list) jobs i s e → s'.gate ≡ s.gate → s'.has.share ≡ s.has.share
    → s'.has.numbers ≡ s.has.numbers → s'.has.draws ≤ s'.has.share → s'.has.held ≡ s.has.held
    → s'.has.draws ≡ s.has.draws + refused_draws right s'.has.knows
    → e' ≡ with_put e (End e.sender (length e.put))
    → ((put : List (Item Job)) → length (values put) ≡ i → IsRightLeft gate.id seat.has list
    (length (values put) ≡ length (before_close list)) right close s'.has)
    → HasFed gate seat slot list jobs s' right close e'
feed_ends gate seat slot list jobs i s s' e e' right close was gate_is share numbers within held draws more left = record {
  put = was.put;
  only_values = was.only_values;
  jobs_is = more ∙ ap (λ (u : PutView Job). with_put u (End u.sender (length u.put))) was.jobs_is;
  slot_is = was.slots_are;
  requests_are = was.requests_are ∙ ap (λ n. take n (before_close list)) (sym was.count);
  numbers_are = numbers ∙ was.numbers_are;
  rising = was.rising;
  lone = was.lone;
  gate_is = gate_is ∙ was.gate_is;
  share_is = share ∙ was.share_is;
  held_is = held ∙ was.held_is;
  draws_are = let a = was.draws_are in let b = was.count in omega arith;
  within = within;
  right = left was.put was.count;
}

-- a close leaves the rights that the seat holds
pub close_holds : (s s' : SeatRecord) (result : Result ℕ AlreadyClosed)
    → MatchResult result (λ n. (s' ≡ made_close s n) × (s.knows ≡ false)) (λ _. s' ≡ missed_close s) → s'.held ≡ s.held
close_holds s s' (Ok n) closed = ap (λ (q : SeatRecord). q.held) closed.0
close_holds s s' (Err e) closed = ap (λ (q : SeatRecord). q.held) closed

-- the right is back, and the seat drew so many times more than jobs were put
pub draws_known : (draws : ℕ) (right : GateId) (s : SeatRecord) (more : ℕ) (said : Bool) → s.knows ≡ said
    → refused_draws (Some right) said ≡ more → s.draws ≡ draws + more → s.draws ≡ draws + refused_draws (Some right) s.knows
draws_known draws right s more said knows is all = all ∙ ap (λ n. draws + n) (sym (ap (refused_draws (Some right)) knows ∙ is))

-- the right was spent
pub right_spent : (gate : GateId) (was s s' : SeatRecord) (list : List Order) (result : Result ℕ AlreadyClosed) (close : Option ℕ)
    (all : Type 0) → HasClose list → close ≡ result_ok result
    → MatchResult result (λ n. (s' ≡ made_close s n) × (s.knows ≡ false)) (λ _. s' ≡ missed_close s) → s.used ≡ was.used → s.made ≡ was.made
    → all → IsRightLeft gate was list all None close s'
right_spent gate was s s' list (Ok n) close all has is closed used made put = (
  ap (λ (q : SeatRecord). q.used) closed.0 ∙ ap (λ k. k + 1) used,
  subst (λ c. IsMade was.made c s'.made) (sym is)
      (ap (λ (q : SeatRecord). q.made) closed.0 ∙ ap (λ l. l ++ n ∷ []) made),
  put,
  has,
  ap (λ (q : SeatRecord). q.knows) closed.0,
)
right_spent gate was s s' list (Err e) close all has is closed used made put = (
  ap (λ (q : SeatRecord). q.used) closed ∙ ap (λ k. k + 1) used,
  subst (λ c. IsMade was.made c s'.made) (sym is)
      (ap (λ (q : SeatRecord). q.made) closed ∙ made),
  put,
  has,
  ap (λ (q : SeatRecord). q.knows) closed,
)
