-- Answers that fit a rack's feeds, and how many they are.
use Rattle.std.proofs.Common.{◌≡◌, ◌<◌, ◌≤◌, ◌+◌, Vec, Global, ℕ, zero, suc, cond, List, [], ◌∷◌, All, length, map, ap, drop, get_or, refl}
use Rattle.farm_reading.specs.Limits.{rack_answers}
use Rattle.farm_orders.specs.Limits.{order_limit, feed_limit}
use Rattle.std.proofs.Common.{arith, subst, inl, inr, true, false}
use Rattle.std.specs.Prelude.{Bool, count_by, ◌==◌}
use Rattle.std.specs.List.{AllByRecursion, AllZip}
use Rattle.std.proofs.lemmas.Bool.{cases_lt}
use Rattle.std.proofs.lemmas.Bool.Decides.{nat_tests}
use Rattle.std.proofs.lemmas.List.{length-map}
use Rattle.std.proofs.lemmas.List.Elements.{All-from_recursion, recursion_from_All}
use Rattle.std.proofs.lemmas.List.Sums.{sum_by-cons}
use Rattle.lrc_code.specs.declared.outcomes.Outcome.{Outcome}
use Rattle.farm_orders.specs.declared.orders.Order.{Order}
use Rattle.farm_lists.specs.Requests.{listed_before_close}
use Rattle.farm_reports.specs.Rows.{FitsFeeds}
use Rattle.farm_lists.specs.declared.listing.Record.{Record}
use Rattle.farm_files.proofs.Fits.{request_counts}
use Rattle.farm_reading.proofs.ReadRequests.{served_few}

-- ---- at most four feeds

-- how many of the numbers are this one
abbrev count : ℕ → List ℕ → ℕ
count f fs = count_by (λ g. g == f) fs

one_of : (x : ℕ) → x < 4 → cond (x == 0) 1 0 + (cond (x == 1) 1 0 + (cond (x == 2) 1 0 + cond (x == 3) 1 0)) ≡ 1
one_of zero few = refl
one_of (suc zero) few = refl
one_of (suc (suc zero)) few = refl
one_of (suc (suc (suc zero))) few = refl
one_of (suc (suc (suc (suc n)))) few = absurd (omega arith)

of_four : (fs : List ℕ) → AllByRecursion (λ f. f < 4) fs → length fs ≡ count 0 fs + (count 1 fs + (count 2 fs + count 3 fs))
of_four [] all = refl
of_four (x ∷ fs) all =
    let step : (f : ℕ) → count f (x ∷ fs) ≡ cond (x == f) 1 0 + count f fs = λ f. sum_by-cons (λ g. cond (g == f) 1 0) x fs in
    omega (arith, of_four fs all.1, one_of x all.0, step 0, step 1, step 2, step 3)

different : (a b : ℕ) → a < b → cond (a == b) 1 0 < 1
different a b less = by (a == b) refl
  where
    by : (t : Bool) → (a == b) ≡ t → cond t 1 0 < 1
    by true e = absurd (let same : a ≡ b = grind (arith, nat_tests) in omega (arith, same, less))
    by false e = omega arith

none_of : (f : ℕ) (fs : List ℕ) (n : ℕ) → n ≤ f → AllByRecursion (λ g. g < n) fs → count f fs < 1
none_of f [] n past all = omega arith
none_of f (x ∷ fs) n past all =
    let rest = none_of f fs n past all.1 in
    let less : x < f = omega (arith, all.0, past) in
    omega (arith, sum_by-cons (λ g. cond (g == f) 1 0) x fs, different x f less, rest)

wider : (n : ℕ) (fs : List ℕ) → n ≤ 4 → AllByRecursion (λ g. g < n) fs → AllByRecursion (λ g. g < 4) fs
wider n [] few all = tt
wider n (x ∷ fs) few all = (omega (arith, all.0, few), wider n fs few all.1)

pub few_answers : (counts fs : List ℕ) → length counts ≤ feed_limit → All (λ n. n ≤ order_limit) counts
    → FitsFeeds counts fs → length fs ≤ rack_answers
few_answers counts fs feeds small fits =
    let known = recursion_from_All (λ f. f < length counts) fs fits.known in
    let most : (f : ℕ) → count f fs ≤ order_limit = λ f. elim (cases_lt f (length counts)) [
      | inl within ↦ (let below = fits.few f within in let least = small f 0 within in omega (arith, below, least))
      | inr past ↦ (let none = none_of f fs (length counts) (omega (arith, past)) known in omega (arith, none))
    ] in
    omega (arith, of_four fs (wider (length counts) fs feeds known), most 0, most 1, most 2, most 3)

-- ---- of all racks

abbrev Lists : Type 0
Lists = List (List Record)

abbrev Answers : Type 0
Answers = Vec (ℕ × Outcome) Global

-- how many requests are before the close of each list
abbrev pub listed_counts : Lists → List ℕ
listed_counts lists = map (λ (list : List Record). length (listed_before_close list)) lists

abbrev pub FitLists : Lists → Answers → Type 0
FitLists lists answers = FitsFeeds (listed_counts lists) (map (λ (a : ℕ × Outcome). a.0) answers.items)

-- answers that fit the orders fit what has as many requests, feed by feed
pub fit_counts : {A : Type 0} (counts : A → List ℕ) (xs : List A) (racks : List (List (List Order))) (answers : List Answers)
    → map request_counts racks ≡ map counts xs
    → AllZip (λ feeds os. FitsFeeds (request_counts feeds) (map (λ a. a.0) os)) racks (map (λ a. a.items) answers)
    → AllZip (λ x a. FitsFeeds (counts x) (map (λ o. o.0) a.items)) xs answers
fit_counts counts [] [] [] same fit = tt
fit_counts counts [] [] (a ∷ answers) same fit = absurd fit
fit_counts counts [] (r ∷ racks) answers same fit = absurd (let sizes = ap (λ (ns : List (List ℕ)). length ns) same in omega (arith, sizes))
fit_counts counts (x ∷ xs) [] answers same fit = absurd (let sizes = ap (λ (ns : List (List ℕ)). length ns) same in omega (arith, sizes))
fit_counts counts (x ∷ xs) (r ∷ racks) [] same fit = absurd fit
fit_counts counts (x ∷ xs) (r ∷ racks) (a ∷ answers) same fit = (
  subst (λ ns. FitsFeeds ns (map (λ (o : ℕ × Outcome). o.0) a.items)) (ap (λ (ns : List (List ℕ)). get_or ns 0 []) same) fit.0,
  fit_counts counts xs racks answers (ap (λ (ns : List (List ℕ)). drop 1 ns) same) fit.1,
)

counts_few : (ls : Lists) → AllByRecursion (λ (list : List Record). length list ≤ order_limit) ls
    → AllByRecursion (λ n. n ≤ order_limit) (listed_counts ls)
counts_few [] few = tt
counts_few (l ∷ ls) few = (omega (arith, served_few l, few.0), counts_few ls few.1)

rack_few : (l : Lists) (a : Answers) → (0 < length l) × (length l ≤ feed_limit) → All (λ (list : List Record). length list ≤ order_limit) l
    → FitLists l a
    → length a.items ≤ rack_answers
rack_few l a feeds small fit =
    let counts = counts_few l (recursion_from_All (λ (list : List Record). length list ≤ order_limit) l small) in
    let size = length-map l (λ (list : List Record). length (listed_before_close list)) in
    let few = few_answers (listed_counts l) (map (λ (x : ℕ × Outcome). x.0) a.items) (omega (arith, feeds.1, size))
    (All-from_recursion (λ n. n ≤ order_limit) (listed_counts l) counts) fit in
    omega (arith, few, length-map a.items (λ (x : ℕ × Outcome). x.0))

each_few : (lists : List Lists) (answers : List Answers) → AllByRecursion (λ (l : Lists). (0 < length l) × (length l ≤ feed_limit)) lists
    → AllByRecursion (λ (l : Lists). All (λ (list : List Record). length list ≤ order_limit) l) lists → AllZip FitLists lists answers
    → AllByRecursion (λ (a : Answers). length a.items ≤ rack_answers) answers
each_few [] [] feeds small fit = tt
each_few [] (a ∷ answers) feeds small fit = absurd fit
each_few (l ∷ lists) [] feeds small fit = absurd fit
each_few (l ∷ lists) (a ∷ answers) feeds small fit = (rack_few l a feeds.0 small.0 fit.0, each_few lists answers feeds.1 small.1 fit.1)

pub all_few : (lists : List Lists) (answers : List Answers) → All (λ (l : Lists). (0 < length l) × (length l ≤ feed_limit)) lists
    → All (λ (l : Lists). All (λ (list : List Record). length list ≤ order_limit) l) lists → AllZip FitLists lists answers
    → All (λ (a : Answers). length a.items ≤ rack_answers) answers
all_few lists answers feeds small fit =
    All-from_recursion (λ (a : Answers). length a.items ≤ rack_answers) answers
    (each_few lists answers (recursion_from_All (λ (l : Lists). (0 < length l) × (length l ≤ feed_limit)) lists feeds)
    (recursion_from_All (λ (l : Lists). All (λ (list : List Record). length list ≤ order_limit) l) lists small) fit)
