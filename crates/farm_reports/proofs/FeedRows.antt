-- The rows of one feed.
use Rattle.std.proofs.Common.{◌≡◌, ◌<◌, ◌≤◌, ◌+◌, ◌++◌, ◌∙◌, ◌⊎◌, inl, inr, ℕ, zero, suc, cond, List, [], ◌∷◌, length, take, map, get_or}
use Rattle.std.proofs.Common.{refl, sym, ap, subst, arith}
use Rattle.std.specs.Prelude.{count_by, ◌==◌}
use Rattle.std.specs.List.{filter, filter_map, range_with_len}
use Rattle.std.proofs.lemmas.Bool.{cases_eq, eq-eqb, ne_eqb}
use Rattle.std.proofs.lemmas.List.{append-nil, get_or_default, map-append, take_all, take_more}
use Rattle.std.proofs.lemmas.List.Elements.{filter-append}
use Rattle.lrc_code.specs.declared.outcomes.Outcome.TheVariants.{Several}
use Rattle.farm_lists.specs.Requests.{RequestRead}
use Rattle.farm_reports.specs.Report.{Row}
use Rattle.farm_reports.specs.ReportLaws.{RowsOfAFeedAreItsFirst, request_of}
use Rattle.farm_reports.specs.Rows.{FitsFeeds, position, row_of_number}
use Rattle.farm_reports.proofs.RackRows.{Answer, numbers_push, position_other, position_same, row_for, some_request}

-- the requests that the rows of a feed are about
about : ℕ → List Row → List RequestRead
about feed rows = map request_of (filter (λ row. row.feed == feed) rows)

-- the feed's first requests, as many as answers of the feed are before number n
firsts : List (List RequestRead) → List Answer → ℕ → ℕ → List RequestRead
firsts requests answers feed n = take (position answers feed n) (get_or requests feed [])

about_push : (feed : ℕ) (front : List Row) (row : Row) → about feed (front ++ row ∷ [])
    ≡ about feed front ++ map request_of (cond (row.feed == feed) (row ∷ []) [])
unfolding about
about_push feed front row = ap (map request_of) (filter-append (λ (x : Row). x.feed == feed) front (row ∷ []))
    ∙ map-append request_of (filter (λ (x : Row). x.feed == feed) front) (cond (row.feed == feed) (row ∷ []) [])

step_same : (requests : List (List RequestRead)) (answers : List Answer) (n : ℕ) (a : Answer) (row : Row) (front : List Row)
    → n < length answers → a ≡ get_or answers n a → row.feed ≡ a.0
    → request_of row ≡ get_or (get_or requests a.0 []) (position answers a.0 n) some_request
    → position answers a.0 n < length (get_or requests a.0 [])
    → about a.0 front ≡ firsts requests answers a.0 n → about a.0 (front ++ row ∷ []) ≡ firsts requests answers a.0 (n + 1)
unfolding firsts
step_same requests answers n a row front within is fed said below so =
    about_push a.0 front row ∙ ap (λ b. about a.0 front ++ map request_of (cond b (row ∷ []) [])) (eq-eqb row.feed a.0 fed)
    ∙ ap (λ rs. rs ++ request_of row ∷ []) so
    ∙ ap (λ r. take (position answers a.0 n) (get_or requests a.0 []) ++ r ∷ []) said
    ∙ sym (ap (λ m. take m (get_or requests a.0 [])) (position_same answers n a within is)
    ∙ take_more (get_or requests a.0 []) (position answers a.0 n) some_request below)

step_other : (requests : List (List RequestRead)) (answers : List Answer) (n : ℕ) (a : Answer) (row : Row) (front : List Row) (feed : ℕ)
    → n < length answers → a ≡ get_or answers n a → row.feed ≡ a.0
    → (feed ≡ a.0 → ⊥) → about feed front ≡ firsts requests answers feed n
    → about feed (front ++ row ∷ []) ≡ firsts requests answers feed (n + 1)
unfolding firsts
step_other requests answers n a row front feed within is fed apart so =
    about_push feed front row ∙ ap (λ b. about feed front ++ map request_of (cond b (row ∷ []) []))
    (ne_eqb row.feed feed (λ e. apart (sym e ∙ fed)))
    ∙ append-nil (about feed front) ∙ so ∙ sym (ap (λ m. take m (get_or requests feed []))
    (position_other answers n a feed within is apart))

step : (requests : List (List RequestRead)) (answers : List Answer) (n : ℕ) (a : Answer) (row : Row) (front : List Row) (feed : ℕ)
    → n < length answers → a ≡ get_or answers n a → row.feed ≡ a.0
    → request_of row ≡ get_or (get_or requests a.0 []) (position answers a.0 n) some_request
    → position answers a.0 n < length (get_or requests a.0 [])
    → about feed front ≡ firsts requests answers feed n → about feed (front ++ row ∷ []) ≡ firsts requests answers feed (n + 1)
step requests answers n a row front feed within is fed said below so = by (cases_eq feed a.0)
  where
    by : (feed ≡ a.0) ⊎ (feed ≡ a.0 → ⊥) → about feed (front ++ row ∷ []) ≡ firsts requests answers feed (n + 1)
    by (inl e) =
        subst (λ g. about g (front ++ row ∷ []) ≡ firsts requests answers g (n + 1)) (sym e)
        (step_same requests answers n a row front within is fed said below (subst (λ g. about g front ≡ firsts requests answers g n) e so))
    by (inr apart) = step_other requests answers n a row front feed within is fed apart so

none : (requests : List (List RequestRead)) (answers : List Answer) (feed : ℕ) → about feed [] ≡ firsts requests answers feed 0
unfolding about firsts
none requests answers feed = refl

feed_front : (requests : List (List RequestRead)) (answers : List Answer) (feed : ℕ)
    → FitsFeeds (map length requests) (map (λ x. x.0) answers) → (n : ℕ) → n ≤ length answers
    → about feed (filter_map (row_of_number requests answers) (range_with_len 0 n)) ≡ firsts requests answers feed n
feed_front requests answers feed fits zero below = none requests answers feed
feed_front requests answers feed fits (suc n) below =
    let h = row_of_number requests answers in
    let within : n < length answers = omega arith in
    let is : get_or answers n (0, Several) ≡ get_or answers n (get_or answers n (0, Several)) =
    get_or_default answers n (0, Several) (get_or answers n (0, Several)) within in
    let found = row_for requests answers n (get_or answers n (0, Several)) fits within is in
    let rest = feed_front requests answers feed fits n (omega arith) in
    let more : suc n ≡ n + 1 = omega arith in
    ap (λ m. about feed (filter_map h (range_with_len 0 m))) more ∙ ap (about feed) (numbers_push h n found.0 found.1)
    ∙ step requests answers n (get_or answers n (0, Several)) found.0
    (filter_map h (range_with_len 0 n)) feed within is found.2 found.4 found.5 rest
    ∙ sym (ap (firsts requests answers feed) more)

pub feed_rows : RowsOfAFeedAreItsFirst
unfolding about firsts
feed_rows requests answers feed fits =
    feed_front requests answers feed fits (length answers) (omega arith)
    ∙ ap (λ (as_answered : List Answer). take (count_by (λ x. x.0 == feed) as_answered) (get_or requests feed []))
    (take_all (length answers) answers (omega arith))
