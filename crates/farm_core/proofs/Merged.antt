-- From one reply to each number that was drawn to lawful merges of all racks.
use Rattle.std.proofs.Common.{◌≡◌, ℕ, zero, suc, ◌<◌, ◌≤◌, List, [], ◌∷◌, ◌++◌, length, take, map, get_or, refl, sym, ap, ◌∙◌, subst, inl}
use Rattle.std.proofs.Common.{inr, arith, Option, Some, None, length-append}
use Rattle.std.specs.Prelude.{IsSome}
use Rattle.std.specs.List.{sum_by, AllZip}
use Rattle.std.proofs.lemmas.Bool.{cases_lt}
use Rattle.std.proofs.lemmas.Bool.Decides.{nat_tests}
use Rattle.std.proofs.lemmas.List.Sums.{sum_by-cons}
use mathlib.Core.Option.{some, some-ne-none, some-injective}
use lib.ListN.{get_elem?}
use Rattle.lrc_code.specs.declared.outcomes.Outcome.{Outcome}
use Rattle.lrc_code.specs.Requests.{Asked}
use Rattle.list_members.proofs.Lists.{from_map}
use Rattle.farm_lanes.proofs.Lengths.{below_length}
use Rattle.farm_lanes.proofs.Numbers.{times-append}
use Rattle.farm_lanes.specs.Counting.{times, once_below, AreBelow}
use Rattle.list_members.specs.Lists.{Each}
use Rattle.farm_orders.specs.declared.orders.Order.{Order}
use Rattle.farm_orders.specs.Orders.{before_close}
use Rattle.farm_threads.specs.Replies.{Replied, Entry}
use Rattle.farm_threads.specs.RunFeeds.{slot_feed}
use Rattle.farm_threads.specs.Feed.{Draws, drawn_numbers, AreDrawn, IsDrawnBy}
use Rattle.farm_threads.specs.Expected.{AreAnswers, AreExpected}
use Rattle.farm_threads.specs.Merge.{IsLawfulMerge, IsFedAnswer, AreAllMergedAnswers}
use Rattle.farm_threads.specs.Boards.{Held, held_at, HasRoom, HasRooms, most_served, AreOneEach, filled, merge_of, AreMergedRows}
use Rattle.farm_threads.specs.Boards.{HoldsAll, IsOutcomeOf}
use Rattle.farm_threads.specs.Jobs.{IsSoReply}
use Rattle.farm_threads.specs.Settled.{AreAllDrawn, IsDrawnAt}
use Rattle.farm_orders.proofs.Members.{map_length, place_is, there}
use Rattle.farm_threads.proofs.Progress.{no_some}
use Rattle.farm_core.proofs.Merges.{drawn_is_lawful, merge_of_one}

once_pos : (k n : ℕ) → k < n → 0 < once_below k n
once_pos k n low = grind (arith, nat_tests)

once_zero : (k n : ℕ) → n ≤ k → once_below k n < 1
once_zero k n high = grind (arith, nat_tests)

module _ {A B : Type 0} where
  pub zip_places : (R : A → B → Type 0) (xs : List A) (ys : List B) → length xs ≡ length ys
      → ((k : ℕ) (x : A) (y : B) → get_elem? xs k ≡ some x → get_elem? ys k ≡ some y → R x y) → AllZip R xs ys
  zip_places R [] [] same each = tt
  zip_places R [] (y ∷ ys) same each = absurd (omega arith)
  zip_places R (x ∷ xs) [] same each = absurd (omega arith)
  zip_places R (x ∷ xs) (y ∷ ys) same each = (each 0 x y refl refl, zip_places R xs ys (omega arith) (λ k. each (suc k)))

module _ {A : Type 0} where
  take_le : (n : ℕ) (xs : List A) → length (take n xs) ≤ length xs
  take_le zero xs = omega arith
  take_le (suc n) [] = omega arith
  take_le (suc n) (x ∷ xs) = let r = take_le n xs in omega arith

-- all numbers of a rack
abbrev all_numbers : List Draws → List ℕ
all_numbers [] = []
all_numbers (d ∷ ds) = drawn_numbers d ++ all_numbers ds

all_times : (x : ℕ) (ds : List Draws) → times x (all_numbers ds) ≡ sum_by (λ (d : Draws). times x (drawn_numbers d)) ds
all_times x [] = refl
all_times x (d ∷ ds) =
    let a = times-append x (drawn_numbers d) (all_numbers ds) in
    let b = sum_by-cons (λ (e : Draws). times x (drawn_numbers e)) d ds in
    let c = all_times x ds in omega arith

all_short : (ds : List Draws) (feeds : List (List Order)) → length ds ≡ length feeds
    → ((f : ℕ) (list : List Order) (d : Draws) → get_elem? feeds f ≡ some list → get_elem? ds f ≡ some d
    → length d ≤ length (before_close list)) → length (all_numbers ds) ≤ most_served feeds
all_short [] [] same each = omega arith
all_short [] (l ∷ feeds) same each = absurd (omega arith)
all_short (d ∷ ds) [] same each = absurd (omega arith)
all_short (d ∷ ds) (l ∷ feeds) same each =
    let a = length-append (drawn_numbers d) (all_numbers ds) in
    let b = map_length (λ (x : ℕ × Asked). x.0) d in
    let c = sum_by-cons (λ (list : List Order). length (before_close list)) l feeds in
    let e = all_short ds feeds (omega arith) (λ f. each (suc f)) in
    let g = each 0 l d refl refl in omega arith

-- there is room for all numbers that were drawn
pub drawn_fit : (feeds : List (List Order)) (n : ℕ) (drawn : List Draws) → AreDrawn feeds n drawn → n ≤ most_served feeds
drawn_fit feeds n drawn are =
    let below : AreBelow n (all_numbers drawn) = (λ x. all_times x drawn ∙ are.once x) in
    let long = below_length n (all_numbers drawn) below in
    let short = all_short drawn feeds are.count (λ f list d at_f at_d.
    let a = ap (λ (l : List Asked). length l) (are.prefixes f list d at_f at_d) in
    let b = map_length (λ (x : ℕ × Asked). x.1) d in
    let c = take_le (length d) (before_close list) in omega arith) in
    omega arith

pub all_fit : (racks : List (List (List Order))) (count : ℕ → ℕ) (drawn : ℕ → List Draws) → AreAllDrawn racks count drawn → (r k : ℕ)
    → k < count r → HasRoom racks r k
all_fit racks count drawn all r k low =
    elim (cases_lt r (length racks)) [
      | inl here ↦
          (let feeds = there racks r here in
          let fit = drawn_fit feeds.0 (count r) (drawn r) (all.each r feeds.0 feeds.1) in
          let is = ap most_served (place_is racks r feeds.0 [] feeds.1) in omega arith)
      | inr past ↦ absurd (let none = (all.beyond r past).0 in omega arith)
    ]

filled_at : (row : List (Option Entry)) (k : ℕ) (e : Entry) → get_elem? (filled row) k ≡ some e → get_or row k None ≡ Some e
filled_at [] k e at = absurd (some-ne-none e (sym at))
filled_at (None ∷ row) k e at = absurd (some-ne-none e (sym at))
filled_at (Some x ∷ row) zero e at = ap Some (some-injective x e at)
filled_at (Some x ∷ row) (suc k) e at = filled_at row k e at

filled_count : (row : List (Option Entry)) (n : ℕ) → ((k : ℕ) → k < n → IsSome (get_or row k None))
    → ((k : ℕ) → n ≤ k → get_or row k None ≡ None) → length (filled row) ≡ n
filled_count [] zero has lacks = refl
filled_count [] (suc n) has lacks = absurd (no_some (has 0 (omega arith)))
filled_count (None ∷ row) zero has lacks = refl
filled_count (None ∷ row) (suc n) has lacks = absurd (no_some (has 0 (omega arith)))
filled_count (Some x ∷ row) zero has lacks = absurd (no_some (subst (λ (o : Option Entry). IsSome o) (lacks 0 (omega arith)) refl))
filled_count (Some x ∷ row) (suc n) has lacks = ap suc (filled_count row n (λ k low. has (suc k) (omega arith))
    (λ k high. lacks (suc k) (omega arith)))

module _ (racks : List (List (List Order))) (count : ℕ → ℕ) (drawn : ℕ → List Draws) (all_drawn : AreAllDrawn racks count drawn) (b : Held)
    (xs : List Replied) (held : HoldsAll b racks xs) (each : AreOneEach count xs) (right : Each (IsSoReply (IsDrawnAt drawn)) xs) where
  -- the entry at a number is of a request that the number was drawn for
  entry_drawn : (r k : ℕ) (e : Entry) → held_at b r k ≡ Some e → IsDrawnBy (drawn r) (slot_feed e.rack) k e.request
  entry_drawn r k e is =
      let a = held.among r k e is in
      let y = a.1 in
      let Q : ℕ × ℕ × Entry → Type 0 = λ p. IsDrawnBy (drawn p.0) (slot_feed p.2.rack) p.1 p.2.request in
      subst Q (λ i. (a.3 i, a.4 i, a.5 i)) (right a.0 y a.2)

  row_merged : (r : ℕ) (feeds : List (List Order)) (row : List (Option Entry)) → get_elem? racks r ≡ some feeds → get_or b.table r [] ≡ row
      → IsLawfulMerge feeds (merge_of row)
  row_merged r feeds row at is =
      let cell : (k : ℕ) → get_or row k None ≡ held_at b r k = (λ k. ap (λ (l : List (Option Entry)). get_or l k None) (sym is)) in
      let long : length (filled row) ≡ count r = filled_count row (count r)
      (λ k low. subst (λ (o : Option Entry). IsSome o) (sym (cell k))
      (held.some r k (let a = each r k in let c = once_pos k (count r) low in omega arith)))
      (λ k high. cell k ∙ held.none r k (let a = each r k in let c = once_zero k (count r) high in omega arith)) in
      drawn_is_lawful feeds (count r) (drawn r) (all_drawn.each r feeds at) (merge_of row)
      (map_length (λ (e : Entry). (slot_feed e.rack, e.request)) (filled row) ∙ long)
      (λ k x here.
      let e = from_map (λ (e : Entry). (slot_feed e.rack, e.request)) (filled row) k x here in
      subst (λ (p : ℕ × Asked). IsDrawnBy (drawn r) p.0 k p.1) e.2 (entry_drawn r k e.0 (sym (cell k) ∙ filled_at row k e.0 e.1)))

  pub rows_merged : HasRooms racks b.table → AreMergedRows racks b.table
  rows_merged rooms =
      let same : length racks ≡ length b.table = sym (map_length most_served racks)
      ∙ (sym (ap (λ (l : List ℕ). length l) rooms) ∙ map_length (λ (row : List (Option Entry)). length row) b.table) in
      zip_places (λ feeds row. IsLawfulMerge feeds (merge_of row)) racks b.table same
      (λ r feeds row at at_row. row_merged r feeds row at (place_is b.table r row [] at_row))

fed_answers : (es : List Entry) (answers : List (ℕ × Outcome)) → AllZip IsOutcomeOf es answers
    → AllZip IsFedAnswer (map (λ (e : Entry). (slot_feed e.rack, e.request)) es) answers
fed_answers [] [] all = tt
fed_answers [] (a ∷ more) all = absurd all
fed_answers (e ∷ es) [] all = absurd all
fed_answers (e ∷ es) (a ∷ more) all = ((all.0.0, all.0.1), fed_answers es more all.1)

-- the outcomes of merged rows are the answers to a lawful merge of each rack's feeds
pub merged_answers : (racks : List (List (List Order))) (table : List (List (Option Entry))) (answers : List (List (ℕ × Outcome)))
    → AreMergedRows racks table → AllZip (λ row outs. AllZip IsOutcomeOf (filled row) outs) table answers
    → AreAllMergedAnswers racks answers
merged_answers [] [] [] merged all = tt
merged_answers [] [] (a ∷ more) merged all = absurd all
merged_answers [] (row ∷ table) more merged all = absurd merged
merged_answers (feeds ∷ racks) [] more merged all = absurd merged
merged_answers (feeds ∷ racks) (row ∷ table) [] merged all = absurd all
merged_answers (feeds ∷ racks) (row ∷ table) (a ∷ more) merged all =
    ((merge_of row, merged.0, fed_answers (filled row) a all.0), merged_answers racks table more merged.1 all.1)

one_answers : (es : List Entry) (outcomes : List Outcome)
    → AllZip (λ (e : Entry) (o : Outcome). IsOutcomeOf e (slot_feed e.rack, o)) es outcomes
    → AreAnswers (map (λ (x : ℕ × Asked). x.1) (map (λ (e : Entry). (slot_feed e.rack, e.request)) es)) outcomes
one_answers [] [] all = tt
one_answers [] (o ∷ more) all = absurd all
one_answers (e ∷ es) [] all = absurd all
one_answers (e ∷ es) (o ∷ more) all = (all.0.1, one_answers es more all.1)

-- where each rack has one feed, they are the answers to its list
pub expected_answers : (racks : List (List Order)) (table : List (List (Option Entry))) (answers : List (List Outcome))
    → AreMergedRows (map (λ list. list ∷ []) racks) table → AllZip
    (λ row outs. AllZip (λ (e : Entry) (o : Outcome). IsOutcomeOf e (slot_feed e.rack, o)) (filled row) outs) table answers
    → AreExpected racks answers
expected_answers [] [] [] merged all = tt
expected_answers [] [] (a ∷ more) merged all = absurd all
expected_answers [] (row ∷ table) more merged all = absurd merged
expected_answers (list ∷ racks) [] more merged all = absurd merged
expected_answers (list ∷ racks) (row ∷ table) [] merged all = absurd all
expected_answers (list ∷ racks) (row ∷ table) (a ∷ more) merged all = (
  subst (λ (l : List Asked). AreAnswers l a) (merge_of_one list (merge_of row) merged.0)
      (one_answers (filled row) a all.0),
  expected_answers racks table more merged.1 all.1,
)

pub zip_map : {A B C : Type 0} (R : A → C → Type 0) (f : B → C) (xs : List A) (ys : List B) → AllZip (λ x y. R x (f y)) xs ys
    → AllZip R xs (map f ys)
zip_map R f [] [] all = tt
zip_map R f [] (y ∷ ys) all = absurd all
zip_map R f (x ∷ xs) [] all = absurd all
zip_map R f (x ∷ xs) (y ∷ ys) all = (all.0, zip_map R f xs ys all.1)
