-- The answers to a lawful merge fit the rack's feeds.
use Rattle.std.proofs.Common.{◌≡◌, ◌<◌, ◌+◌, ◌∙◌, ℕ, zero, suc, Bool, true, false, cond, List, [], ◌∷◌, length, map, get_or, refl, sym, ap}
use Rattle.std.proofs.Common.{subst, arith}
use Rattle.std.specs.Prelude.{count_by, ◌==◌}
use Rattle.std.specs.List.{All, AllZip}
use Rattle.std.proofs.lemmas.List.{get_or-map, length-map, length-take}
use Rattle.std.proofs.lemmas.List.Sums.{sum_by-cons}
use mathlib.Core.Option.{some}
use lib.ListN.{get_elem?}
use Rattle.lrc_code.specs.declared.outcomes.Outcome.{Outcome}
use Rattle.lrc_code.specs.Requests.{Asked}
use Rattle.farm_orders.specs.declared.orders.Order.{Order}
use Rattle.farm_orders.specs.Orders.{before_close}
use Rattle.farm_core.specs.Merge.{AreAllMergedAnswers, AreMergedAnswers, IsFedAnswer, IsLawfulMerge, of_feed}
use Rattle.farm_reports.specs.Rows.{FitsFeeds}

-- how many requests are before each feed's close
abbrev pub request_counts : List (List Order) → List ℕ
request_counts feeds = map (λ list. length (before_close list)) feeds

known_all : (m : ℕ) (merge : List (ℕ × Asked)) → All (λ x. x.0 < m) merge → All (λ f. f < m) (map (λ x. x.0) merge)
known_all m [] all k d within = absurd (omega arith)
known_all m (x ∷ merge) all zero d within = all 0 x (omega arith)
known_all m (x ∷ merge) all (suc k) d within = known_all m merge (λ i e l. all (suc i) e (omega arith)) k d (omega arith)

count_step : (b : Bool) (a : Asked) (n : ℕ) (rest : List Asked) → n ≡ length rest → cond b 1 0 + n ≡ length (cond b (a ∷ rest) rest)
count_step true a n rest h = omega arith
count_step false a n rest h = omega arith

counted_feed : (f : ℕ) (merge : List (ℕ × Asked)) → count_by (λ g. g == f) (map (λ x. x.0) merge) ≡ length (of_feed f merge)
counted_feed f [] = refl
counted_feed f (x ∷ merge) =
    sum_by-cons (λ g. cond (g == f) 1 0) x.0 (map (λ (y : ℕ × Asked). y.0) merge)
    ∙ count_step (x.0 == f) x.1 (count_by (λ g. g == f) (map (λ (y : ℕ × Asked). y.0) merge)) (of_feed f merge) (counted_feed f merge)

elem_at : (feeds : List (List Order)) (f : ℕ) → f < length feeds → get_elem? feeds f ≡ some (get_or feeds f [])
elem_at [] f below = absurd (omega arith)
elem_at (list ∷ feeds) zero below = refl
elem_at (list ∷ feeds) (suc f) below = elem_at feeds f (omega arith)

pub merge_fits : (feeds : List (List Order)) (merge : List (ℕ × Asked)) → IsLawfulMerge feeds merge
    → FitsFeeds (request_counts feeds) (map (λ x. x.0) merge)
merge_fits feeds merge lawful =
    let size : length (request_counts feeds) ≡ length feeds = length-map feeds (λ (list : List Order). length (before_close list)) in
    record {
      known = subst (λ m. All (λ f. f < m) (map (λ (x : ℕ × Asked). x.0) merge)) (sym size) (known_all (length feeds) merge lawful.known);
      few = λ f below.
          let within : f < length feeds = omega (arith, size, below) in
          let list = get_or feeds f [] in
          let prefix = ap (λ (requests : List Asked). length requests) (lawful.prefixes f list (elem_at feeds f within)) in
          let taken = length-take (length (of_feed f merge)) (before_close list) in
          let count = get_or-map (λ (l : List Order). length (before_close l)) feeds f [] 0 within in
          omega (arith, counted_feed f merge, prefix, taken, count);
    }

-- the answers have the feeds' numbers of the merge
pub answered_feeds : (merge : List (ℕ × Asked)) (answers : List (ℕ × Outcome)) → AllZip IsFedAnswer merge answers
    → map (λ a. a.0) answers ≡ map (λ x. x.0) merge
answered_feeds [] [] all = refl
answered_feeds [] (a ∷ answers) all = absurd all
answered_feeds (x ∷ merge) [] all = absurd all
answered_feeds (x ∷ merge) (a ∷ answers) all = let same = all.0.0 in let rest = answered_feeds merge answers all.1 in cc

pub answers_fit : (feeds : List (List Order)) (answers : List (ℕ × Outcome)) → AreMergedAnswers feeds answers
    → FitsFeeds (request_counts feeds) (map (λ a. a.0) answers)
answers_fit feeds answers merged = subst (λ numbers. FitsFeeds (request_counts feeds) numbers)
    (sym (answered_feeds merged.0 answers merged.2)) (merge_fits feeds merged.0 merged.1)

-- of all racks
pub all_answers_fit : (racks : List (List (List Order))) (answers : List (List (ℕ × Outcome))) → AreAllMergedAnswers racks answers
    → AllZip (λ feeds os. FitsFeeds (request_counts feeds) (map (λ a. a.0) os)) racks answers
all_answers_fit [] [] all = tt
all_answers_fit [] (os ∷ answers) all = absurd all
all_answers_fit (feeds ∷ racks) [] all = absurd all
all_answers_fit (feeds ∷ racks) (os ∷ answers) all = (answers_fit feeds os all.0, all_answers_fit racks answers all.1)
