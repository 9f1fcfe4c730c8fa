-- The rows of a rack's report, from the answers to a merge of its feeds.
use Rattle.std.specs.Prelude.{◌<◌, ◌≤◌, ◌==◌, ℕ, nat_lt, List, Option, length, take, count_by, option_map, option_and_then, slice_index}
use Rattle.std.specs.List.{All, filter_map, list_any, range_with_len, slice_get}
use Rattle.lrc_code.specs.declared.outcomes.Outcome.{Outcome}
use Rattle.farm_lists.specs.Requests.{RequestRead}
use Rattle.farm_reports.specs.Report.{Row, is_wide_read}
use Rattle.farm_reports.specs.declared.report.ReportShape.{ReportShape}

-- member j of list i
abbrev pub member : {A : Type 0} → List (List A) → ℕ → ℕ → Option A
member lists i j = option_and_then (λ list. slice_get list j) (slice_get lists i)

-- how many of the answers before number n are of this feed: the position, in the feed, of the next request that is answered
abbrev pub position : List (ℕ × Outcome) → ℕ → ℕ → ℕ
position answers feed n = count_by (λ a. a.0 == feed) (take n answers)

-- the row of an answer to the request at a position of its feed
abbrev pub row_at : List (List RequestRead) → ℕ × Outcome → ℕ → Option Row
row_at requests answer p = option_map (λ r. record { feed = answer.0; listed = r.listed; outcome = answer.1; unread = r.unread })
    (member requests answer.0 p)

-- row n of a rack with these requests, feed by feed, and these answers, each with its feed's number
abbrev pub row_of_number : List (List RequestRead) → List (ℕ × Outcome) → ℕ → Option Row
row_of_number requests answers n = option_and_then (λ a. row_at requests a (position answers a.0 n)) (slice_get answers n)

-- the rows in the order of their numbers
abbrev pub rack_rows : List (List RequestRead) → List (ℕ × Outcome) → List Row
rack_rows requests answers = filter_map (row_of_number requests answers) (range_with_len 0 (length answers))

-- The shape of a rack's report: it says the feeds where there are several, and the codes where a request of some feed is of the (12,2,2)
-- code.
abbrev pub rack_shape : List (List RequestRead) → ReportShape
rack_shape requests = record { feeds = nat_lt 1 (length requests); codes = list_any (λ rs. list_any is_wide_read rs) requests }

-- answers of these feeds fit feeds with so many requests: each is of a feed that is there, and no feed has more answers than requests
pub record FitsFeeds (counts : List ℕ) (feeds : List ℕ) : Type 0 where
  pub known : All (λ f. f < length counts) feeds
  pub few : (f : ℕ) → f < length counts → count_by (λ g. g == f) feeds ≤ slice_index counts f
