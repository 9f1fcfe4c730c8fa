-- The joined seat of a rack says what its feeders drew.
use Rattle.std.proofs.Common.{◌≡◌, ℕ, zero, suc, ◌+◌, ◌<◌, ◌||◌, ◌⊎◌, List, [], ◌∷◌, ◌++◌, length, take, map, Bool, true, false, refl, sym}
use Rattle.std.proofs.Common.{ap, ◌∙◌, subst, inl, inr, ⊎_elim, arith, append-nil, length-append, Option, Some, None}
use Rattle.std.specs.List.{sum_by, All}
use Rattle.std.specs.Option.{is_some}
use Rattle.std.proofs.lemmas.List.{take_all}
use Rattle.std.proofs.lemmas.List.Sums.{sum_by-cons}
use mathlib.Core.Option.{some, some-ne-none, some-injective}
use lib.ListN.{get_elem?}
use Rattle.farm_lanes.specs.declared.gate.record.SeatRecord.{SeatRecord}
use Rattle.farm_lanes.specs.declared.gate.record.GateSize.{GateSize}
use Rattle.farm_lanes.specs.declared.lane.item.Item.TheVariants.{End}
use Rattle.farm_lanes.specs.Counting.{times}
use Rattle.farm_lanes.specs.GateRecord.{IsSound}
use Rattle.farm_lanes.specs.GateView.{GateName, SeatView, GateId}
use Rattle.farm_lanes.specs.LaneEnds.{PutView}
use Rattle.farm_lanes.specs.LaneRecord.{values}
use Rattle.list_members.specs.Lists.{Each}
use Rattle.farm_lanes.specs.SeatChanges.{joined, given, given_away, made_close, missed_close}
use Rattle.farm_lanes.specs.declared.gate.AlreadyClosed.{AlreadyClosed}
use Rattle.std.specs.Prelude.{Result, Ok, Err, MatchResult}
use Rattle.std.proofs.Common.{true≢false, append_assoc}
use Rattle.list_members.proofs.Lists.{at_below, at_map, from_map, sum_map, each_snoc}
use Rattle.farm_lanes.proofs.Numbers.{times-append}
use Rattle.farm_lanes.proofs.Sums.{total_none, total_snoc}
use Rattle.farm_lanes.proofs.Values.{values-append}
use Rattle.farm_orders.specs.declared.orders.Order.{Order}
use Rattle.farm_threads.specs.declared.jobs.Job.{Job}
use Rattle.farm_threads.specs.declared.jobs.Job.TheVariants.{Solve, Stop}
use Rattle.farm_threads.specs.declared.feeder.Fed.{Fed}
use Rattle.farm_orders.specs.Orders.{before_close, HasClose}
use Rattle.farm_threads.specs.Jobs.{IsOfSlot, IsOfFeed, numbers_of, requests_of}
use Rattle.farm_threads.specs.Feed.{HasFed, IsRightLeft, AreRising, Draws, drawn_numbers, drawn_requests, DrewAll, right_back, draws_of}
use Rattle.farm_threads.specs.Feed.{IsOfGate, IsJoint, AreFed, HasDrawn}
use Rattle.farm_threads.specs.RunFeeds.{slot_of}
use Rattle.farm_orders.proofs.Members.{map_length, there}
use Rattle.farm_core.proofs.SlotJobs.{jobs_of_feed}

or_false : (a b : Bool) → a || b ≡ false → (a ≡ false) × (b ≡ false)
or_false true b none = absurd (cc)
or_false false true none = absurd (cc)
or_false false false none = (refl, refl)

pub joint_look : (s : SeatRecord) → IsJoint (joined (given_away s 0) (given s 0)) (s ∷ [])
joint_look s = record {
  share = omega arith;
  numbers = λ x. let a = times-append x s.numbers [] in omega arith;
  used = omega arith;
  made = let a = length-append s.made [] in omega arith;
  unclosed = λ none. λ k t at. one k t at (or_false s.knows s.knows none).0;
}
  where
    one : (k : ℕ) (t : SeatRecord) → get_elem? (s ∷ []) k ≡ some t → s.knows ≡ false → t.knows ≡ false
    one zero t at is = ap (λ (q : SeatRecord). q.knows) (sym (some-injective s t at)) ∙ is
    one (suc k) t at is = absurd (some-ne-none t (sym at))

pub joint_more : (s t : SeatRecord) (parts : List SeatRecord) → IsJoint s parts → IsJoint (joined s t) (parts ++ t ∷ [])
joint_more s t parts was = record {
  share = let a = was.share in let b = total_snoc (λ (q : SeatRecord). q.share) parts t in omega arith;
  numbers = λ x. let a = was.numbers x in let b = total_snoc (λ (q : SeatRecord). times x q.numbers) parts t in
      let c = times-append x s.numbers t.numbers in omega arith;
  used = let a = was.used in let b = total_snoc (λ (q : SeatRecord). q.used) parts t in omega arith;
  made = let a = was.made in let b = total_snoc (λ (q : SeatRecord). length q.made) parts t in
      let c = length-append s.made t.made in omega arith;
  unclosed = λ none. let both = or_false s.knows t.knows none in each_snoc (λ (q : SeatRecord). q.knows ≡ false) parts t
      (was.unclosed both.0) both.1;
}

-- the first of the parts goes to the end
pub joint_turn : (s t : SeatRecord) (parts : List SeatRecord) → IsJoint s (t ∷ parts) → IsJoint s (parts ++ t ∷ [])
joint_turn s t parts was = record {
  share = turn (λ (q : SeatRecord). q.share) was.share;
  numbers = λ x. turn (λ (q : SeatRecord). times x q.numbers) (was.numbers x);
  used = turn (λ (q : SeatRecord). q.used) was.used;
  made = turn (λ (q : SeatRecord). length q.made) was.made;
  unclosed = λ none. each_snoc (λ (q : SeatRecord). q.knows ≡ false) parts t (λ k. was.unclosed none (suc k)) (was.unclosed none 0 t refl);
}
  where
    turn : {n : ℕ} (f : SeatRecord → ℕ) → n ≡ sum_by f (t ∷ parts) → n ≡ sum_by f (parts ++ t ∷ [])
    turn f is = let a = sum_by-cons f t parts in let b = total_snoc f parts t in omega arith

-- the numbers and requests of jobs
numbers_drawn : (js : List Job) → drawn_numbers (draws_of js) ≡ numbers_of js
numbers_drawn [] = refl
numbers_drawn (Solve a b q ∷ js) = ap (λ l. b ∷ l) (numbers_drawn js)
numbers_drawn (Stop ∷ js) = numbers_drawn js

requests_drawn : (js : List Job) → drawn_requests (draws_of js) ≡ requests_of js
requests_drawn [] = refl
requests_drawn (Solve a b q ∷ js) = ap (λ l. q.now ∷ l) (requests_drawn js)
requests_drawn (Stop ∷ js) = requests_drawn js

draws_length : (r : ℕ) (js : List Job) → All (IsOfSlot r) js → length (draws_of js) ≡ length js
draws_length r [] all = refl
draws_length r (Solve a b q ∷ js) all = ap suc (draws_length r js (λ k d low. all (suc k) d (omega arith)))
draws_length r (Stop ∷ js) all = absurd (all 0 Stop (omega arith))

left_back : (gate : GateId) (was : SeatRecord) (list : List Order) (all : Type 0) (right : Option GateId) (close : Option ℕ)
    (left : SeatRecord) → is_some right ≡ true → IsRightLeft gate was list all right close left
    → (left.used ≡ was.used) × (left.made ≡ was.made) × (left.knows ≡ false → all × ¬ HasClose list)
left_back gate was list all None close left back is = absurd (cc)
left_back gate was list all (Some r) close left back is = (is.2, is.3, is.4)

left_spent : (gate : GateId) (was : SeatRecord) (list : List Order) (all : Type 0) (right : Option GateId) (close : Option ℕ)
    (left : SeatRecord) → right ≡ None → IsRightLeft gate was list all right close left → all × HasClose list
left_spent gate was list all None close left spent is = (is.2, is.3)
left_spent gate was list all (Some r) close left spent is = absurd (cc)

-- each right came back, or some didn't
scan : (given_back : List Fed) → Each (λ (f : Fed). is_some f.right ≡ true) given_back
    ⊎ ((k : ℕ) × (f : Fed) × (get_elem? given_back k ≡ some f) × (f.right ≡ None))
scan [] = inl (λ k f at. absurd (some-ne-none f (sym at)))
scan (f ∷ given_back) = ⊎_elim
    (λ back. ⊎_elim (λ all. inl (both f given_back back all))
    (λ (w : (k : ℕ) × (g : Fed) × (get_elem? given_back k ≡ some g) × (g.right ≡ None)). inr (suc w.0, w.1, w.2, w.3)) (scan given_back))
    (λ spent. inr (0, f, refl, spent))
    (decide f.right)
  where
    decide : (o : Option GateId) → (is_some o ≡ true) ⊎ (o ≡ None)
    decide None = inr refl
    decide (Some r) = inl refl

    both : (f : Fed) (given_back : List Fed) → is_some f.right ≡ true → Each (λ (f : Fed). is_some f.right ≡ true) given_back
        → Each (λ (f : Fed). is_some f.right ≡ true) (f ∷ given_back)
    both f given_back back all zero g at = subst (λ (u : Fed). is_some u.right ≡ true) (some-injective f g at) back
    both f given_back back all (suc k) g at = all k g at

module _ {A : Type 0} where
  pub same_sums : (f g : A → ℕ) (xs : List A) → ((k : ℕ) (x : A) → get_elem? xs k ≡ some x → f x ≡ g x) → sum_by f xs ≡ sum_by g xs
  same_sums f g [] same = refl
  same_sums f g (x ∷ xs) same = let a = sum_by-cons f x xs in let b = sum_by-cons g x xs in let c = same 0 x refl in
      let d = same_sums f g xs (λ k. same (suc k)) in omega arith

module _ (gate : GateName) (rack : ℕ) (lists : List (List Order)) (given_back : List Fed) (fed : AreFed gate rack lists given_back) where
  abbrev draws_at : Fed → Draws
  draws_at f = draws_of (values f.jobs.put)

  abbrev jobs_at : Fed → PutView Job
  jobs_at f = f.jobs

  abbrev drawn : List Draws
  drawn = map (λ (e : PutView Job). draws_of (values e.put)) (map jobs_at given_back)

  vals_are : (f : Fed) (seat : SeatView) (k : ℕ) (list : List Order) (jobs : PutView Job)
      → (h : HasFed gate seat (slot_of rack k) list jobs f.seat f.right f.close f.jobs) → values f.jobs.put ≡ values h.put
  vals_are f seat k list jobs h =
      ap (λ (e : PutView Job). values e.put) h.jobs_is
      ∙ (values-append h.put (End jobs.sender (length h.put) ∷ []) ∙ append-nil (values h.put))

  -- what the feeder at an index left
  at_feed : (k : ℕ) (f : Fed) → get_elem? given_back k ≡ some f
      → (list : List Order) × (get_elem? lists k ≡ some list) × (seat : SeatView) × (jobs : PutView Job) × (seat.has.used ≡ 0)
      × (seat.has.made ≡ []) × HasFed gate seat (slot_of rack k) list jobs f.seat f.right f.close f.jobs
  at_feed k f at =
      let l = there lists k (let a = at_below given_back k f at in let b = fed.count in omega arith) in
      let h = fed.each k l.0 f l.1 at in
      (l.0, l.1, h.0, h.1, h.2, h.3, h.4)

  few_at : (k : ℕ) (f : Fed) → get_elem? given_back k ≡ some f → k < 4
  few_at k f at =
      let l = there lists k (let a = at_below given_back k f at in let b = fed.count in omega arith) in
      (fed.each k l.0 f l.1 at).5

  -- the feeder at an index of what was drawn
  from_drawn : (k : ℕ) (d : Draws) → get_elem? drawn k ≡ some d → (f : Fed) × (get_elem? given_back k ≡ some f) × (draws_at f ≡ d)
  from_drawn k d at =
      let e = from_map (λ (e : PutView Job). draws_of (values e.put)) (map jobs_at given_back) k d at in
      let f = from_map jobs_at given_back k e.0 e.1 in
      (f.0, f.1, ap (λ (u : PutView Job). draws_of (values u.put)) f.2 ∙ e.2)

  numbers_at : (k : ℕ) (f : Fed) → get_elem? given_back k ≡ some f → drawn_numbers (draws_at f) ≡ f.seat.has.numbers
  numbers_at k f at =
      let h = at_feed k f at in
      numbers_drawn (values f.jobs.put) ∙ (ap numbers_of (vals_are f h.2 k h.0 h.3 h.6) ∙ sym h.6.numbers_are)

  requests_at : (k : ℕ) (f : Fed) (list : List Order) → get_elem? given_back k ≡ some f → get_elem? lists k ≡ some list
      → drawn_requests (draws_at f) ≡ take (length (draws_at f)) (before_close list)
  requests_at k f list at at_list =
      let h = at_feed k f at in
      let same : h.0 ≡ list = some-injective _ _ (sym h.1 ∙ at_list) in
      let vals = vals_are f h.2 k h.0 h.3 h.6 in
      let long : length (values h.6.put) ≡ length (draws_at f) =
      sym (draws_length (slot_of rack k) (values h.6.put) h.6.slot_is) ∙ ap (λ (l : List Job). length (draws_of l)) (sym vals) in
      requests_drawn (values f.jobs.put) ∙ (ap requests_of vals
      ∙ (h.6.requests_are ∙ (ap (λ n. take n (before_close h.0)) long
      ∙ ap (λ (l : List Order). take (length (draws_at f)) (before_close l)) same)))

  drew_all : (k : ℕ) (f : Fed) (list : List Order) → get_elem? given_back k ≡ some f → get_elem? lists k ≡ some list
      → (h : (list : List Order) × (get_elem? lists k ≡ some list) × (seat : SeatView) × (jobs : PutView Job) × (seat.has.used ≡ 0)
      × (seat.has.made ≡ []) × HasFed gate seat (slot_of rack k) list jobs f.seat f.right f.close f.jobs)
      → length (values h.6.put) ≡ length (before_close h.0) → DrewAll (draws_at f) list
  drew_all k f list at at_list h all =
      let same : h.0 ≡ list = some-injective _ _ (sym h.1 ∙ at_list) in
      let vals = vals_are f h.2 k h.0 h.3 h.6 in
      requests_drawn (values f.jobs.put) ∙ (ap requests_of vals
      ∙ (h.6.requests_are ∙ (take_all (length (values h.6.put)) (before_close h.0) (omega arith) ∙ ap before_close same)))

  -- the joined seat, of which all rights that came back were spent
  pub rack_drawn : (s : SeatRecord) (back : ℕ) → IsJoint s (map (λ (f : Fed). f.seat.has) given_back) → IsSound gate.size s
      → (Each (λ (f : Fed). is_some f.right ≡ true) given_back → back ≡ length given_back)
      → (s.used ≡ 0 → length s.made ≡ 0 → back ≡ gate.size.rights → s.knows ≡ false)
      → HasDrawn rack lists (map jobs_at given_back)
  rack_drawn s back joint sound came spent =
      let whole = sound.whole (joint.share ∙ (sum_map (λ (t : SeatRecord). t.share) (λ (f : Fed). f.seat.has) given_back ∙ fed.shares)) in
      let n = whole.0 in
      record {
        n = n;
        are = record {
          count = map_length (λ (e : PutView Job). draws_of (values e.put)) (map jobs_at given_back)
              ∙ (map_length jobs_at given_back ∙ fed.count);
          rising = λ k d at.
              let f = from_drawn k d at in
              let h = at_feed k f.0 f.1 in
              let up : AreRising (drawn_numbers (draws_at f.0)) =
              subst AreRising (sym (numbers_drawn (values f.0.jobs.put) ∙ ap numbers_of (vals_are f.0 h.2 k h.0 h.3 h.6))) h.6.rising in
              subst (λ (l : Draws). AreRising (drawn_numbers l)) f.2 up;
          once = λ x.
              sum_map (λ (l : Draws). times x (drawn_numbers l)) (λ (e : PutView Job). draws_of (values e.put)) (map jobs_at given_back)
              ∙ (sum_map (λ (e : PutView Job). times x (drawn_numbers (draws_of (values e.put)))) jobs_at given_back
              ∙ (same_sums (λ (f : Fed). times x (drawn_numbers (draws_at f))) (λ (f : Fed). times x f.seat.has.numbers) given_back
              (λ k f at. ap (times x) (numbers_at k f at))
              ∙ (sym (sum_map (λ (t : SeatRecord). times x t.numbers) (λ (f : Fed). f.seat.has) given_back)
              ∙ (sym (joint.numbers x) ∙ whole.1 x))));
          prefixes = λ k list d at_list at.
              let f = from_drawn k d at in
              subst (λ (l : Draws). drawn_requests l ≡ take (length l) (before_close list)) f.2 (requests_at k f.0 list f.1 at_list);
          ended = ⊎_elim
              (λ all.
              let used : s.used ≡ 0 = joint.used ∙ (sum_map (λ (t : SeatRecord). t.used) (λ (f : Fed). f.seat.has) given_back
              ∙ total_none (λ (f : Fed). f.seat.has.used) given_back
              (λ k f at. let h = at_feed k f at in (left_back gate.id h.2.has h.0 _ f.right f.close f.seat.has (all k f at) h.6.right).0
              ∙ h.4)) in
              let made : length s.made ≡ 0 = joint.made ∙ (sum_map (λ (t : SeatRecord). length t.made) (λ (f : Fed). f.seat.has) given_back
              ∙ total_none (λ (f : Fed). length f.seat.has.made) given_back
              (λ k f at. let h = at_feed k f at in ap (λ (l : List ℕ). length l)
              ((left_back gate.id h.2.has h.0 _ f.right f.close f.seat.has (all k f at) h.6.right).1 ∙ h.5))) in
              let none = joint.unclosed (spent used made (came all ∙ sym fed.rights)) in
              inl (λ k list d at_list at.
              let f = from_drawn k d at in
              let h = at_feed k f.0 f.1 in
              let said = (left_back gate.id h.2.has h.0 _ f.0.right f.0.close f.0.seat.has (all k f.0 f.1) h.6.right).2
              (none k f.0.seat.has (at_map (λ (f : Fed). f.seat.has) given_back k f.0 f.1)) in
              let same : h.0 ≡ list = some-injective _ _ (sym h.1 ∙ at_list) in (
                subst (λ l. ¬ HasClose l) same said.1,
                subst (λ (l : Draws). DrewAll l list) f.2
                    (drew_all k f.0 list f.1 at_list h said.0),
              )))
              (λ (w : (k : ℕ) × (f : Fed) × (get_elem? given_back k ≡ some f) × (f.right ≡ None)).
              let h = at_feed w.0 w.1 w.2 in
              let said = left_spent gate.id h.2.has h.0 _ w.1.right w.1.close w.1.seat.has w.3 h.6.right in
              let here : get_elem? drawn w.0 ≡ some (draws_at w.1) =
              at_map (λ (e : PutView Job). draws_of (values e.put)) (map jobs_at given_back) w.0 w.1.jobs
              (at_map jobs_at given_back w.0 w.1 w.2) in
              inr (w.0, h.0, draws_at w.1, h.1, here, said.1, drew_all w.0 w.1 h.0 w.2 h.1 h said.0))
              (scan given_back);
        };
        each = λ k e at.
            let f = from_map jobs_at given_back k e at in
            let h = at_feed k f.0 f.1 in
            subst (λ (u : PutView Job). All (IsOfFeed rack k) (values u.put)) f.2
            (subst (λ (l : List Job). All (IsOfFeed rack k) l) (sym (vals_are f.0 h.2 k h.0 h.3 h.6))
            (jobs_of_feed rack k (few_at k f.0 f.1) (values h.6.put) h.6.slot_is));
      }

-- a seat that knows a closing and spends rights makes no close
pub record IsSpending (size : GateSize) (was s : SeatRecord) (count : ℕ) : Type 0 where
  pub knows : s.knows ≡ true
  pub used : s.used ≡ was.used + count
  pub made : length s.made ≡ length was.made

pub spend_begins : (size : GateSize) (s : SeatRecord) → s.knows ≡ true → IsSpending size s s 0
spend_begins size s is = record { knows = is; used = omega arith; made = refl }

pub spend_next : (size : GateSize) (was s s' : SeatRecord) (count : ℕ) (result : Result ℕ AlreadyClosed) → IsSpending size was s count
    → MatchResult result (λ n. (s' ≡ made_close s n) × (s.knows ≡ false)) (λ _. s' ≡ missed_close s) → IsSpending size was s' (count + 1)
spend_next size was s s' count (Ok n) spending closed = absurd (true≢false (sym spending.knows ∙ closed.1))
spend_next size was s s' count (Err e) spending closed = record {
  knows = ap (λ (q : SeatRecord). q.knows) closed;
  used = let a = ap (λ (q : SeatRecord). q.used) closed in let b = spending.used in omega arith;
  made = ap (λ (q : SeatRecord). length q.made) closed ∙ spending.made;
}

-- so it knew of none
pub spend_ends : (size : GateSize) (was s : SeatRecord) (count : ℕ) → IsSound size s → (was.knows ≡ true → IsSpending size was s count)
    → was.used ≡ 0 → length was.made ≡ 0 → count ≡ size.rights → was.knows ≡ false
spend_ends size was s count sound spending used made all = decide was.knows (λ is.
    let p = spending is in
    let a = p.used in let b = p.made in
    let one = sound.closed_by (omega arith) in omega arith)
  where
    decide : (b : Bool) → (b ≡ true → ⊥) → b ≡ false
    decide true out = absurd (out refl)
    decide false out = refl

-- the rights that came back
abbrev pub rights_of : List Fed → List GateId
rights_of [] = []
rights_of (f ∷ given_back) = right_back f.right ++ rights_of given_back

pub rights_snoc : (given_back : List Fed) (f : Fed) → rights_of (given_back ++ f ∷ []) ≡ rights_of given_back ++ right_back f.right
rights_snoc [] f = append-nil (right_back f.right)
rights_snoc (g ∷ given_back) f = ap (λ l. right_back g.right ++ l) (rights_snoc given_back f)
    ∙ sym (append_assoc (right_back g.right) (rights_of given_back) (right_back f.right))

pub all_back : (given_back : List Fed) → Each (λ (f : Fed). is_some f.right ≡ true) given_back
    → length (rights_of given_back) ≡ length given_back
all_back [] back = refl
all_back (f ∷ given_back) back =
    let a = length-append (right_back f.right) (rights_of given_back) in
    let b = one f.right (back 0 f refl) in
    let c = all_back given_back (λ k. back (suc k)) in omega arith
  where
    one : (o : Option GateId) → is_some o ≡ true → length (right_back o) ≡ 1
    one None is = absurd (cc)
    one (Some r) is = refl

pub rights_own : (gate : GateId) (given_back : List Fed) → Each (IsOfGate gate) given_back → Each (λ r. r ≡ gate) (rights_of given_back)
rights_own gate [] own = λ k r at. absurd (some-ne-none r (sym at))
rights_own gate (f ∷ given_back) own = both (right_back f.right) (rights_of given_back) (one f.right (own 0 f refl).1)
    (rights_own gate given_back (λ k. own (suc k)))
  where
    only : (q : GateId) (k : ℕ) (r : GateId) → get_elem? (q ∷ []) k ≡ some r → q ≡ gate → r ≡ gate
    only q zero r at is = sym (some-injective q r at) ∙ is
    only q (suc k) r at is = absurd (some-ne-none r (sym at))

    one : (o : Option GateId) → ((right : GateId) → o ≡ Some right → right ≡ gate) → Each (λ r. r ≡ gate) (right_back o)
    one None is = λ k r at. absurd (some-ne-none r (sym at))
    one (Some q) is = λ k r at. only q k r at (is q refl)

    both : (xs ys : List GateId) → Each (λ r. r ≡ gate) xs → Each (λ r. r ≡ gate) ys → Each (λ r. r ≡ gate) (xs ++ ys)
    both [] ys a b k r at = b k r at
    both (x ∷ xs) ys a b zero r at = a 0 r at
    both (x ∷ xs) ys a b (suc k) r at = both xs ys (λ j. a (suc j)) b k r at

pub map_snoc : {A B : Type 0} (f : A → B) (xs : List A) (x : A) → map f (xs ++ x ∷ []) ≡ map f xs ++ f x ∷ []
map_snoc f [] x = refl
map_snoc f (y ∷ xs) x = ap (λ l. f y ∷ l) (map_snoc f xs x)
