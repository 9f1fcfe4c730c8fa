-- One rack more has put what its feeds drew.
use Rattle.std.proofs.Common.{◌≡◌, ◌≢◌, ℕ, suc, ◌+◌, ◌<◌, ◌&&◌, List, [], ◌∷◌, ◌++◌, length, map, refl, sym, ap, ◌∙◌, subst, inl, inr}
use Rattle.std.proofs.Common.{⊎_elim, arith, nat_eq, cond}
use Rattle.std.specs.List.{sum_by, All}
use Rattle.std.proofs.lemmas.Bool.{cases_eq}
use Rattle.std.proofs.lemmas.Bool.Decides.{nat_tests}
use Rattle.std.proofs.lemmas.List.{length_push}
use Rattle.std.proofs.lemmas.List.Sums.{sum_by-cons, sum_by-append}
use mathlib.Core.Option.{some, some-ne-none}
use lib.ListN.{get_elem?}
use Rattle.lrc_code.specs.Requests.{Asked}
use Rattle.farm_lanes.specs.declared.lane.item.Item.{Item}
use Rattle.farm_lanes.specs.declared.lane.item.Item.TheVariants.{Value, End}
use Rattle.farm_lanes.specs.Counting.{times, once_below}
use Rattle.farm_lanes.specs.LaneEnds.{PutView}
use Rattle.farm_lanes.specs.LaneRecord.{values}
use Rattle.list_members.specs.Lists.{Each}
use Rattle.list_members.proofs.Lists.{at_below, at_snoc_or, at_either, at_map, sum_map}
use Rattle.farm_lanes.proofs.Numbers.{times-cons, same_test, other_test}
use Rattle.farm_lanes.proofs.Sums.{total_none}
use Rattle.farm_orders.specs.declared.orders.Order.{Order}
use Rattle.farm_threads.specs.declared.jobs.Job.{Job}
use Rattle.farm_threads.specs.declared.jobs.Job.TheVariants.{Solve, Stop}
use Rattle.farm_threads.specs.Jobs.{IsOfFeed, AsksNothing, HasPutStops, job_weight, IsSoJob, IsSoItem}
use Rattle.farm_threads.specs.RunFeeds.{slot_rack, slot_feed}
use Rattle.farm_threads.specs.Feed.{Draws, drawn_numbers, AreDrawn, IsDrawnBy, draws_of, HasDrawn}
use Rattle.farm_threads.specs.Settled.{IsDrawnAt, HavePut}
use Rattle.farm_threads.proofs.Settled.{Every, jobs_to, weigh_jobs, job_items}
use Rattle.farm_core.proofs.Joints.{same_sums}

here_one : (a rack b k : ℕ) → a ≡ rack → cond (nat_eq a rack && nat_eq b k) 1 0 ≡ cond (nat_eq b k) 1 0 + 0
here_one a rack b k is = grind (arith, nat_tests)

else_one : (a r b k : ℕ) → a ≢ r → cond (nat_eq a r && nat_eq b k) 1 0 < 1
else_one a r b k apart = grind (arith, nat_tests)

-- the jobs of a feed count at their rack alone, each by its number
jobs_here : (rack f k : ℕ) (js : List Job) → All (IsOfFeed rack f) js → jobs_to rack k js ≡ times k (drawn_numbers (draws_of js))
jobs_here rack f k [] all = refl
jobs_here rack f k (Stop ∷ js) all = absurd (all 0 Stop (omega arith))
jobs_here rack f k (Solve a b q ∷ js) all =
    let is : slot_rack a ≡ rack = (all 0 (Solve a b q) (omega arith)).0 in
    let rest = jobs_here rack f k js (λ i d low. all (suc i) d (omega arith)) in
    let one = here_one (slot_rack a) rack b k is in
    let more = times-cons k b (drawn_numbers (draws_of js)) in omega arith

jobs_elsewhere : (rack f r k : ℕ) (js : List Job) → rack ≢ r → All (IsOfFeed rack f) js → jobs_to r k js ≡ 0
jobs_elsewhere rack f r k [] apart all = refl
jobs_elsewhere rack f r k (Stop ∷ js) apart all = absurd (all 0 Stop (omega arith))
jobs_elsewhere rack f r k (Solve a b q ∷ js) apart all =
    let is : slot_rack a ≡ rack = (all 0 (Solve a b q) (omega arith)).0 in
    let rest = jobs_elsewhere rack f r k js apart (λ i d low. all (suc i) d (omega arith)) in
    let one = else_one (slot_rack a) r b k (λ e. apart (sym is ∙ e)) in
    omega arith

-- of the jobs of a feed this holds, if it does of what they drew
so_jobs_of : (P : ℕ → ℕ → ℕ → Asked → Type 0) (rack f : ℕ) (js : List Job) → All (IsOfFeed rack f) js
    → ((i : ℕ) (x : ℕ × Asked) → get_elem? (draws_of js) i ≡ some x → P rack f x.0 x.1) → Every (IsSoJob P) js
so_jobs_of P rack f [] all so = tt
so_jobs_of P rack f (Stop ∷ js) all so = absurd (all 0 Stop (omega arith))
so_jobs_of P rack f (Solve a b q ∷ js) all so =
    let is = all 0 (Solve a b q) (omega arith) in
    let Q : ℕ × ℕ → Type 0 = λ p. P p.0 p.1 b q.now in (
      subst Q (λ i. (sym is.0 i, sym is.1 i)) (so 0 (b, q.now) refl),
      so_jobs_of P rack f js (λ i d low. all (suc i) d (omega arith))
          (λ i. so (suc i)),
    )

-- what holds of items by one saying holds by a weaker one
weaker_item : (P Q : ℕ → ℕ → ℕ → Asked → Type 0) → ((r f k : ℕ) (q : Asked) → P r f k q → Q r f k q) → (x : Item Job) → IsSoItem P x
    → IsSoItem Q x
weaker_item P Q step (Value s i (Solve a b q)) so = step (slot_rack a) (slot_feed a) b q.now so
weaker_item P Q step (Value s i Stop) so = tt
weaker_item P Q step (End s i) so = tt

pub puts_none : HavePut [] []
puts_none = record {
  count = λ _. 0;
  drawn = λ _. [];
  put_drawn = record {
    all_drawn = record { each = λ r f at. absurd (some-ne-none f (sym at)); beyond = λ r _. (refl, refl) };
    once = λ r k. none k;
    right = λ s e at. absurd (some-ne-none e (sym at));
  };
}
  where
    none : (k : ℕ) → 0 ≡ once_below k 0
    none k = let t : once_below k 0 < 1 = grind (arith, nat_tests) in omega arith

abbrev put_weight : ℕ → ℕ → PutView Job → ℕ
put_weight r k e = sum_by (job_weight r k) e.put

-- a rack's count and what it drew, beside those of the racks before it
abbrev count_too : ℕ → ℕ → (ℕ → ℕ) → ℕ → ℕ
count_too here n count r = cond (nat_eq r here) n (count r)

abbrev drawn_too : ℕ → List Draws → (ℕ → List Draws) → ℕ → List Draws
drawn_too here draws drawn r = cond (nat_eq r here) draws (drawn r)

abbrev all_draws : List (PutView Job) → List Draws
all_draws puts = map (λ (e : PutView Job). draws_of (values e.put)) puts

-- one rack more
pub puts_more : (racks : List (List (List Order))) (feeds : List (List Order)) (puts more : List (PutView Job)) → HavePut racks puts
    → HasDrawn (length racks) feeds more → HavePut (racks ++ feeds ∷ []) (puts ++ more)
puts_more racks feeds puts more was new = record {
  count = count_too (length racks) new.n was.count;
  drawn = drawn_too (length racks) (all_draws more) was.drawn;
  put_drawn = record {
    all_drawn = record {
      each = λ r f at. ⊎_elim
          (λ old. let low = at_below racks r f old in
          let P : ℕ × List Draws → Type 0 = λ p. AreDrawn f p.0 p.1 in
          subst P (λ i. (sym (count_old r (λ e. absurd (omega arith))) i, sym (drawn_old r (λ e. absurd (omega arith))) i))
          (was.put_drawn.all_drawn.each r f old))
          (λ (here : (r ≡ length racks) × (feeds ≡ f)).
          let P : ℕ × List Draws × List (List Order) → Type 0 = λ p. AreDrawn p.2 p.0 p.1 in
          subst P (λ i. (sym (count_new r here.0) i, sym (drawn_new r here.0) i, here.1 i)) new.are)
          (at_snoc_or racks feeds f r at);
      beyond = λ r past.
          let long = length_push racks feeds in
          let old = was.put_drawn.all_drawn.beyond r (omega arith) in
          (count_old r (λ e. absurd (omega arith)) ∙ old.0, drawn_old r (λ e. absurd (omega arith)) ∙ old.1);
    };
    once = λ r k.
        sum_by-append (put_weight r k) puts more
        ∙ elim (cases_eq r (length racks)) [
          | inl same ↦
              (let a : sum_by (put_weight r k) puts ≡ once_below k (was.count r) = was.put_drawn.once r k in
              let b = (was.put_drawn.all_drawn.beyond r (omega arith)).0 in
              let z : once_below k 0 < 1 = grind (arith, nat_tests) in
              let d = ap (once_below k) b in
              let e = here_weight r k same in
              let f = ap (once_below k) (count_new r same) in omega arith)
          | inr apart ↦
              (let a : sum_by (put_weight r k) puts ≡ once_below k (was.count r) = was.put_drawn.once r k in
              let e = other_weight r k apart in
              let f = ap (once_below k) (count_old r apart) in omega arith)
        ];
    right = λ s e at. ⊎_elim
        (λ (old : (j : ℕ) × (get_elem? puts j ≡ some e)). λ i x here. weaker_item (IsDrawnAt was.drawn)
        (IsDrawnAt (drawn_too (length racks) (all_draws more) was.drawn)) still x (was.put_drawn.right old.0 e old.1 i x here))
        (λ (now : (j : ℕ) × (get_elem? more j ≡ some e)). job_items (IsDrawnAt (drawn_too (length racks) (all_draws more) was.drawn)) e.put
        (so_jobs_of (IsDrawnAt (drawn_too (length racks) (all_draws more) was.drawn)) (length racks) now.0 (values e.put)
        (new.each now.0 e now.1)
        (λ i x here. subst (λ (l : List Draws). IsDrawnBy l now.0 x.0 x.1) (sym (drawn_new (length racks) refl))
        (draws_of (values e.put), i, at_map (λ (e : PutView Job). draws_of (values e.put)) more now.0 e now.1, here))))
        (at_either puts more s e at);
  };
}
  where
    count_old : (r : ℕ) → (r ≡ length racks → ⊥) → (count_too (length racks) new.n was.count) r ≡ was.count r
    count_old r apart = ap (λ b. cond b new.n (was.count r)) (other_test (length racks) r apart)

    count_new : (r : ℕ) → r ≡ length racks → (count_too (length racks) new.n was.count) r ≡ new.n
    count_new r same = ap (λ b. cond b new.n (was.count r)) (same_test (length racks) r same)

    drawn_old : (r : ℕ) → (r ≡ length racks → ⊥) → (drawn_too (length racks) (all_draws more) was.drawn) r ≡ was.drawn r
    drawn_old r apart = ap (λ b. cond b (all_draws more) (was.drawn r)) (other_test (length racks) r apart)

    drawn_new : (r : ℕ) → r ≡ length racks → (drawn_too (length racks) (all_draws more) was.drawn) r ≡ (all_draws more)
    drawn_new r same = ap (λ b. cond b (all_draws more) (was.drawn r)) (same_test (length racks) r same)

    still : (r f k : ℕ) (q : Asked) → IsDrawnAt was.drawn r f k q → IsDrawnAt (drawn_too (length racks) (all_draws more) was.drawn) r f k q
    still r f k q by =
        elim (cases_eq r (length racks)) [
          | inl same ↦ absurd (let none = (was.put_drawn.all_drawn.beyond r (omega arith)).1 in some-ne-none by.0
              (sym by.2 ∙ ap (λ (l : List Draws). get_elem? l f) none))
          | inr apart ↦ subst (λ (l : List Draws). IsDrawnBy l f k q) (sym (drawn_old r apart)) by
        ]

    here_weight : (r k : ℕ) → r ≡ length racks → sum_by (put_weight r k) more ≡ once_below k new.n
    here_weight r k same =
        same_sums (put_weight r k) (λ (e : PutView Job). times k (drawn_numbers (draws_of (values e.put)))) more
        (λ f e at. weigh_jobs r k e.put ∙ (ap (λ j. jobs_to j k (values e.put)) same
        ∙ jobs_here (length racks) f k (values e.put) (new.each f e at)))
        ∙ (sym (sum_map (λ (d : Draws). times k (drawn_numbers d)) (λ (e : PutView Job). draws_of (values e.put)) more) ∙ new.are.once k)

    other_weight : (r k : ℕ) → (r ≡ length racks → ⊥) → sum_by (put_weight r k) more ≡ 0
    other_weight r k apart = total_none (put_weight r k) more
        (λ f e at. weigh_jobs r k e.put ∙ jobs_elsewhere (length racks) f r k (values e.put) (λ e. apart (sym e)) (new.each f e at))

-- and the end for the stops
weighs_nothing : (r k : ℕ) (xs : List (Item Job)) → Each AsksNothing xs → sum_by (job_weight r k) xs ≡ 0
weighs_nothing r k [] each = refl
weighs_nothing r k (Value s i (Solve a b q) ∷ xs) each = absurd (each 0 (Value s i (Solve a b q)) refl)
weighs_nothing r k (Value s i Stop ∷ xs) each = let a' = sum_by-cons (job_weight r k) (Value s i Stop) xs in
    let b' = weighs_nothing r k xs (λ j. each (suc j)) in omega arith
weighs_nothing r k (End s i ∷ xs) each = let a' = sum_by-cons (job_weight r k) (End s i) xs in
    let b' = weighs_nothing r k xs (λ j. each (suc j)) in omega arith

so_nothing : (P : ℕ → ℕ → ℕ → Asked → Type 0) (x : Item Job) → AsksNothing x → IsSoItem P x
so_nothing P (Value s i (Solve a b q)) asks = absurd asks
so_nothing P (Value s i Stop) asks = tt
so_nothing P (End s i) asks = tt

pub puts_stops : (racks : List (List (List Order))) (puts : List (PutView Job)) (stops last : PutView Job) → HavePut racks puts
    → HasPutStops stops last → HavePut racks (puts ++ last ∷ [])
puts_stops racks puts stops last was s =
    let nothing : Each AsksNothing last.put = subst (λ (u : PutView Job). Each AsksNothing u.put) (sym s.stops_is) s.nothing in
    record {
      count = was.count;
      drawn = was.drawn;
      put_drawn = record {
        all_drawn = was.put_drawn.all_drawn;
        once = λ r k.
            let a = sum_by-append (put_weight r k) puts (last ∷ []) in
            let b = sum_by-cons (put_weight r k) last [] in
            let d = weighs_nothing r k last.put nothing in
            let e : sum_by (put_weight r k) puts ≡ once_below k (was.count r) = was.put_drawn.once r k in omega arith;
        right = λ j e at. ⊎_elim
            (λ old. was.put_drawn.right j e old)
            (λ (new : (j ≡ length puts) × (last ≡ e)). subst (λ (u : PutView Job). Each (IsSoItem (IsDrawnAt was.drawn)) u.put) new.1
            (λ i x here. so_nothing (IsDrawnAt was.drawn) x (nothing i x here)))
            (at_snoc_or puts last e j at);
      };
    }
