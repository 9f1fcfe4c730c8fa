-- The rows of a rack, number by number.
use Rattle.std.proofs.Common.{◌≡◌, ◌<◌, ◌≤◌, ◌+◌, ◌++◌, ◌∙◌, ◌⊎◌, inl, inr, ℕ, zero, suc, Bool, cond, List, [], ◌∷◌, Option, Some, length}
use Rattle.std.proofs.Common.{take, map, set, get_or, refl, sym, ap, arith}
use Rattle.std.specs.Prelude.{count_by, option_map, option_and_then, ◌==◌}
use Rattle.std.specs.List.{filter_map, range_with_len, slice_get}
use Rattle.std.proofs.lemmas.Bool.{cases_eq, eq-eqb, ne_eqb}
use Rattle.std.proofs.lemmas.List.{get_or-map, get_or-set_same, get_or-set_other, get_or_default, get_or_read, length-map, length-take}
use Rattle.std.proofs.lemmas.List.{map-append, map-id, take_all, take_more}
use Rattle.std.proofs.lemmas.List.Elements.{All-get_or, filter_map-append}
use Rattle.std.proofs.lemmas.List.Sums.{count_by-le-length, count_by_more_no, count_by_more_yes, sum_by-cons, sum_by-take-le}
use Rattle.std.proofs.lemmas.Option.{slice_get-get_or}
use Rattle.lrc_code.specs.declared.outcomes.Outcome.{Outcome}
use Rattle.lrc_code.specs.declared.codes.Code.TheVariants.{Narrow}
use Rattle.lrc_code.specs.declared.places.Place.TheVariants.{X0}
use Rattle.lrc_code.specs.declared.outcomes.Outcome.TheVariants.{Several}
use Rattle.farm_lists.specs.Requests.{RequestRead}
use Rattle.farm_reports.specs.Report.{Row}
use Rattle.farm_reports.specs.ReportLaws.{RowsGiveTheAnswers, request_of}
use Rattle.farm_reports.specs.Rows.{FitsFeeds, member, position, row_at, row_of_number}

-- an answer: its feed's number and the outcome
abbrev pub Answer : Type 0
Answer = ℕ × Outcome

pub count_by-map : {X Y : Type 0} (p : Y → Bool) (f : X → Y) (xs : List X) → count_by p (map f xs) ≡ count_by (λ x. p (f x)) xs
count_by-map p f [] = refl
count_by-map p f (x ∷ xs) =
    sum_by-cons (λ y. cond (p y) 1 0) (f x) (map f xs) ∙ ap (λ n. cond (p (f x)) 1 0 + n) (count_by-map p f xs)
    ∙ sym (sum_by-cons (λ y. cond (p (f y)) 1 0) x xs)

-- ---- positions

pub position_same : (answers : List Answer) (n : ℕ) (a : Answer) → n < length answers → a ≡ get_or answers n a
    → position answers a.0 (n + 1) ≡ position answers a.0 n + 1
position_same answers n a within is = count_by_more_yes (λ x. x.0 == a.0) answers n a within
    (ap (λ (x : Answer). x.0 == a.0) (sym is) ∙ eq-eqb a.0 a.0 refl)

pub position_other : (answers : List Answer) (n : ℕ) (a : Answer) (f : ℕ) → n < length answers → a ≡ get_or answers n a → (f ≡ a.0 → ⊥)
    → position answers f (n + 1) ≡ position answers f n
position_other answers n a f within is other = count_by_more_no (λ x. x.0 == f) answers n a within
    (ap (λ (x : Answer). x.0 == f) (sym is) ∙ ne_eqb a.0 f (λ e. other (sym e)))

pub position_most : (answers : List Answer) (f n : ℕ) → position answers f n ≤ n
position_most answers f n = omega (arith, count_by-le-length (λ (x : Answer). x.0 == f) (take n answers), length-take n answers)

-- one answer more is counted
pub counts_step : (answers : List Answer) (counts : List ℕ) (m n : ℕ) (a : Answer) → n < length answers → a ≡ get_or answers n a
    → length counts ≡ m → a.0 < m
    → ((f : ℕ) → f < m → get_or counts f 0 ≡ position answers f n)
    → (f : ℕ) → f < m → get_or (set counts a.0 (get_or counts a.0 0 + 1)) f 0 ≡ position answers f (n + 1)
counts_step answers counts m n a within is sized known so f below = by (cases_eq f a.0)
  where
    by : (f ≡ a.0) ⊎ (f ≡ a.0 → ⊥) → get_or (set counts a.0 (get_or counts a.0 0 + 1)) f 0 ≡ position answers f (n + 1)
    by (inl e) =
        ap (λ i. get_or (set counts a.0 (get_or counts a.0 0 + 1)) i 0) e
        ∙ get_or-set_same counts a.0 (get_or counts a.0 0 + 1) 0 (omega arith)
        ∙ ap (λ k. k + 1) (so a.0 known) ∙ sym (position_same answers n a within is) ∙ ap (λ i. position answers i (n + 1)) (sym e)
    by (inr ne) = get_or-set_other counts a.0 f (get_or counts a.0 0 + 1) 0 ne ∙ so f below
        ∙ sym (position_other answers n a f within is ne)

-- ---- feeds that the answers fit

pub feed_known : (sizes : List ℕ) (answers : List Answer) (n : ℕ) (a : Answer) → FitsFeeds sizes (map (λ x. x.0) answers)
    → n < length answers → a ≡ get_or answers n a → a.0 < length sizes
feed_known sizes answers n a fits within is =
    let feed = λ (x : Answer). x.0 in
    let at = All-get_or (λ f. f < length sizes) (map feed answers) n a.0 (omega (arith, length-map answers feed)) fits.known in
    let same : get_or (map feed answers) n a.0 ≡ a.0 = get_or-map feed answers n a a.0 within ∙ ap feed (sym is) in
    omega (arith, at, same)

pub position_within : (sizes : List ℕ) (answers : List Answer) (n : ℕ) (a : Answer) → FitsFeeds sizes (map (λ x. x.0) answers)
    → n < length answers → a ≡ get_or answers n a
    → position answers a.0 n < get_or sizes a.0 0
position_within sizes answers n a fits within is =
    let few = fits.few a.0 (feed_known sizes answers n a fits within is) in
    let counted = count_by-map (λ g. g == a.0) (λ (x : Answer). x.0) answers in
    let front = sum_by-take-le (λ (x : Answer). cond (x.0 == a.0) 1 0) answers (n + 1) in
    let step = position_same answers n a within is in
    omega (arith, few, counted, front, step)

pub sizes_at : {V A : Type 0} (items : V → List A) (vs : List V) (i : ℕ)
    → get_or (map (λ v. length (items v)) vs) i 0 ≡ length (get_or (map items vs) i [])
sizes_at items [] i = refl
sizes_at items (v ∷ vs) zero = refl
sizes_at items (v ∷ vs) (suc i) = sizes_at items vs i

-- ---- rows

range_push : (a n : ℕ) → range_with_len a (n + 1) ≡ range_with_len a n ++ (a + n) ∷ []
range_push a zero = let same : a + 0 ≡ a = omega arith in rw same refl
range_push a (suc n) =
    let more : suc n + 1 ≡ suc (n + 1) = omega arith in
    let same : a + suc n ≡ (a + 1) + n = omega arith in
    rw (more, same) (ap (λ t. a ∷ t) (range_push (a + 1) n))

pub numbers_push : (h : ℕ → Option Row) (n : ℕ) (row : Row) → h n ≡ Some row
    → filter_map h (range_with_len 0 (n + 1)) ≡ filter_map h (range_with_len 0 n) ++ row ∷ []
numbers_push h n row is =
    let same : 0 + n ≡ n = omega arith in
    ap (filter_map h) (range_push 0 n) ∙ filter_map-append h (range_with_len 0 n) ((0 + n) ∷ [])
    ∙ ap (λ k. filter_map h (range_with_len 0 n) ++ filter_map h (k ∷ [])) same
    ∙ rw is refl

pub number_is : (requests : List (List RequestRead)) (answers : List Answer) (n p : ℕ) (a : Answer) (row : Row)
    → n < length answers → a ≡ get_or answers n a → p ≡ position answers a.0 n → row_at requests a p ≡ Some row
    → row_of_number requests answers n ≡ Some row
number_is requests answers n p a row within is at made =
    let found : slice_get answers n ≡ Some a = slice_get-get_or answers n a within ∙ ap (λ (x : Answer). Some x) (sym is) in
    ap (λ o. option_and_then (λ x. row_at requests x (position answers x.0 n)) o) found ∙ ap (λ k. row_at requests a k) (sym at) ∙ made

pub said_step : {A : Type 0} (outcome : A → Outcome) (answers : List Answer) (n : ℕ) (a : Answer) (row : A) (before after : List A)
    → n < length answers → a ≡ get_or answers n a → outcome row ≡ a.1
    → map outcome before ≡ map (λ x. x.1) (take n answers) → after ≡ before ++ row ∷ []
    → map outcome after ≡ map (λ x. x.1) (take (n + 1) answers)
said_step outcome answers n a row before after within is said so grew =
    let snd = λ (x : Answer). x.1 in
    let more : take (n + 1) answers ≡ take n answers ++ a ∷ [] =
    take_more answers n a within ∙ ap (λ (x : Answer). take n answers ++ x ∷ []) (sym is) in
    ap (map outcome) grew ∙ map-append outcome before (row ∷ []) ∙ ap (λ t. t ++ outcome row ∷ []) so
    ∙ ap (λ o. map snd (take n answers) ++ o ∷ []) said
    ∙ sym (ap (map snd) more ∙ map-append snd (take n answers) (a ∷ []))

-- what is read of the counts is the position
pub position_read : {V : Type 0} (size : V → ℕ) (vs : List V) (answers : List Answer) (counts : List ℕ) (n p : ℕ) (a : Answer)
    → FitsFeeds (map size vs) (map (λ x. x.0) answers)
    → n < length answers → a ≡ get_or answers n a → length counts ≡ length vs
    → ((f : ℕ) → f < length vs → get_or counts f 0 ≡ position answers f n) → p ≡ get_or counts a.0 p → p ≡ position answers a.0 n
position_read size vs answers counts n p a fits within is sized so read =
    let known : a.0 < length vs = omega (arith, feed_known (map size vs) answers n a fits within is, length-map vs size) in
    get_or_read counts a.0 p (omega arith) read 0 ∙ so a.0 known

pub known_in : {V : Type 0} (size : V → ℕ) (vs : List V) (answers : List Answer) (n : ℕ) (a : Answer)
    → FitsFeeds (map size vs) (map (λ x. x.0) answers) → n < length answers → a ≡ get_or answers n a
    → a.0 < length vs
known_in size vs answers n a fits within is = omega (arith, feed_known (map size vs) answers n a fits within is, length-map vs size)

-- the position is within the feed's requests
pub position_in : {V A : Type 0} (items : V → List A) (vs : List V) (answers : List Answer) (n p : ℕ) (a : Answer)
    → FitsFeeds (map (λ v. length (items v)) vs) (map (λ x. x.0) answers)
    → n < length answers → a ≡ get_or answers n a → p ≡ position answers a.0 n → p < length (get_or (map items vs) a.0 [])
position_in items vs answers n p a fits within is at =
    let below = position_within (map (λ v. length (items v)) vs) answers n a fits within is in
    let same = sizes_at items vs a.0 in
    omega (arith, below, same, at)

-- ---- the rows give the answers

member_is : {A : Type 0} (lists : List (List A)) (i j : ℕ) (d : A) → i < length lists → j < length (get_or lists i [])
    → member lists i j ≡ Some (get_or (get_or lists i []) j d)
member_is lists i j d outer inner = ap (λ o. option_and_then (λ list. slice_get list j) o) (slice_get-get_or lists i [] outer)
    ∙ slice_get-get_or (get_or lists i []) j d inner

-- a request, for positions beyond a list
pub some_request : RequestRead
some_request = record { listed = record { code = Narrow; stripe = []; target = X0; len = 0; survivors = [] }; unread = [] }

-- the row of a number
pub row_for : (requests : List (List RequestRead)) (answers : List Answer) (n : ℕ) (a : Answer)
    → FitsFeeds (map length requests) (map (λ x. x.0) answers) → n < length answers → a ≡ get_or answers n a
    → (row : Row) × (row_of_number requests answers n ≡ Some row) × (row.feed ≡ a.0) × (row.outcome ≡ a.1)
    × (request_of row ≡ get_or (get_or requests a.0 []) (position answers a.0 n) some_request)
    × (position answers a.0 n < length (get_or requests a.0 []))
row_for requests answers n a fits within is =
    let p = position answers a.0 n in
    let known = known_in length requests answers n a fits within is in
    let below = position_in (λ (rs : List RequestRead). rs) requests answers n (position answers a.0 n) a fits within is refl in
    let same = map-id requests in
    let inner : position answers a.0 n < length (get_or requests a.0 []) =
    omega (arith, below, ap (λ (rs : List (List RequestRead)). length (get_or rs a.0 [])) same) in
    let r = get_or (get_or requests a.0 []) p some_request in
    let found = member_is requests a.0 (position answers a.0 n) some_request known inner in
    let made : row_at requests a (position answers a.0 n)
    ≡ Some (record { feed = a.0; listed = r.listed; outcome = a.1; unread = r.unread }) =
    ap (λ o. option_map (λ x. record { feed = a.0; listed = x.listed; outcome = a.1; unread = x.unread }) o) found in (
      record { feed = a.0; listed = r.listed; outcome = a.1; unread = r.unread },
      number_is requests answers n (position answers a.0 n) a _ within is refl made,
      refl,
      refl,
      refl,
      inner,
    )

answer_in : Row → Answer
answer_in row = (row.feed, row.outcome)

rows_give_front : (requests : List (List RequestRead)) (answers : List Answer) → FitsFeeds (map length requests) (map (λ x. x.0) answers)
    → (n : ℕ) → n ≤ length answers
    → map answer_in (filter_map (row_of_number requests answers) (range_with_len 0 n)) ≡ take n answers
unfolding answer_in
rows_give_front requests answers fits zero below = refl
rows_give_front requests answers fits (suc n) below =
    let h = row_of_number requests answers in
    let d : Answer = (0, Several) in
    let within : n < length answers = omega arith in
    let a = get_or answers n d in
    let is : get_or answers n d ≡ get_or answers n (get_or answers n d) = get_or_default answers n d (get_or answers n d) within in
    let found = row_for requests answers n (get_or answers n d) fits within is in
    let rest = rows_give_front requests answers fits n (omega arith) in
    let more : suc n ≡ n + 1 = omega arith in
    let said : answer_in found.0 ≡ a = ap (λ f. (f, found.0.outcome)) found.2 ∙ ap (λ o. ((get_or answers n d).0, o)) found.3 in
    ap (λ m. map answer_in (filter_map h (range_with_len 0 m))) more ∙ ap (map answer_in) (numbers_push h n found.0 found.1)
    ∙ map-append answer_in (filter_map h (range_with_len 0 n)) (found.0 ∷ []) ∙ ap (λ t. t ++ answer_in found.0 ∷ []) rest
    ∙ ap (λ x. take n answers ++ x ∷ []) said
    ∙ sym (ap (λ m. take m answers) more ∙ take_more answers n d within)

pub rows_give : RowsGiveTheAnswers
unfolding answer_in
rows_give requests answers fits = rows_give_front requests answers fits (length answers) (omega arith)
    ∙ take_all (length answers) answers (omega arith)
