-- Laws of reports and of the files of racks with one feed.
use Rattle.std.specs.Prelude.{◌≡◌, ◌+◌, ◌++◌, ◌==◌, ℕ, false, List, [], ◌∷◌, codes, count_by, decimal, length, map, slice_index_or, take}
use Rattle.std.specs.List.{AllZip, filter, flat_map, join_with_byte, list_any}
use Rattle.lrc_code.specs.declared.places.Place.{Place}
use Rattle.lrc_code.specs.declared.outcomes.Outcome.{Outcome}
use Rattle.lrc_code.specs.Places.{name_of}
use Rattle.farm_lists.specs.Listed.{ListedRequest}
use Rattle.farm_lists.specs.Names.{report_name}
use Rattle.farm_lists.specs.Requests.{RequestRead}
use Rattle.farm_reports.specs.Report.{Row, digest_text, fragment_digest, is_wide, outcome_name, report, report_line}
use Rattle.farm_reports.specs.Rows.{FitsFeeds, rack_rows}
use Rattle.farm_reports.specs.Written.{files_from, rebuilt_file}

-- ---- a report with seven fields

abbrev pub seven_names : List (List ℕ)
seven_names = codes "number" ∷ codes "stripe" ∷ codes "target" ∷ codes "length" ∷ codes "outcome" ∷ codes "digest" ∷ codes "unread" ∷ []

abbrev pub seven_fields : ℕ → ListedRequest → Outcome → List Place → List (List ℕ)
seven_fields n r o u =
    decimal n ∷ r.stripe ∷ name_of r.target ∷ decimal r.len ∷ outcome_name o ∷ digest_text (fragment_digest o) ∷ join_with_byte 32
    (map name_of u) ∷ []

-- the fields of the requests from the n-th on
abbrev pub seven_rows : ℕ → List ListedRequest → List Outcome → List (List Place) → List (List (List ℕ))
seven_rows n [] os us = []
seven_rows n (r ∷ rs) [] us = []
seven_rows n (r ∷ rs) (o ∷ os) [] = []
seven_rows n (r ∷ rs) (o ∷ os) (u ∷ us) = seven_fields n r o u ∷ seven_rows (n + 1) rs os us

-- where no request is of the (12,2,2) code each line of the report on a list has the seven fields
abbrev pub NarrowReportHasSevenFields : Type 0
NarrowReportHasSevenFields = (rs : List ListedRequest) (os : List Outcome) (us : List (List Place)) → list_any is_wide rs ≡ false
    → report rs os us ≡ flat_map report_line (seven_names ∷ seven_rows 0 rs os us)

-- ---- the files of one list for each rack

-- the rebuilt fragments of the requests from the n-th on
abbrev pub rebuilt_of_list : ℕ → ℕ → List ListedRequest → List Outcome → List (List ℕ × List ℕ)
rebuilt_of_list k n [] os = []
rebuilt_of_list k n (r ∷ rs) [] = []
rebuilt_of_list k n (r ∷ rs) (o ∷ os) = rebuilt_file k n r o ++ rebuilt_of_list k (n + 1) rs os

-- a rack's rebuilt fragments, then the report on its list
abbrev pub list_files : ℕ → List ListedRequest → List Outcome → List (List Place) → List (List ℕ × List ℕ)
list_files k rs os us = rebuilt_of_list k 0 rs os ++ (report_name k, report rs os us) ∷ []

-- the files of the racks from the k-th on, each with one list
abbrev pub lists_files : ℕ → List (List RequestRead) → List (List Outcome) → List (List ℕ × List ℕ)
lists_files k [] answers = []
lists_files k (rs ∷ lists) [] = []
lists_files k (rs ∷ lists) (a ∷ answers) = list_files k (map (λ r. r.listed) rs) a (map (λ r. r.unread) rs) ++ lists_files
    (k + 1) lists answers

-- racks with one feed each have the files of their lists
abbrev pub FilesOfOneFeedAreOfItsList : Type 0
FilesOfOneFeedAreOfItsList = (lists : List (List RequestRead)) (answers : List (List Outcome))
    → AllZip (λ rs os. length os ≡ length rs) lists answers
    → files_from 0 (map (λ rs. rs ∷ []) lists) (map (λ os. map (λ o. (0, o)) os) answers) ≡ lists_files 0 lists answers

-- ---- the rows of a rack

-- where the answers fit the feeds there is a row for each answer, in order, which says its feed and its outcome
abbrev pub RowsGiveTheAnswers : Type 0
RowsGiveTheAnswers = (requests : List (List RequestRead)) (answers : List (ℕ × Outcome))
    → FitsFeeds (map length requests) (map (λ a. a.0) answers)
    → map (λ row. (row.feed, row.outcome)) (rack_rows requests answers) ≡ answers

-- the request that a row is about
abbrev pub request_of : Row → RequestRead
request_of row = record { listed = row.listed; unread = row.unread }

-- and the rows of one feed are about the feed's first requests, in order
abbrev pub RowsOfAFeedAreItsFirst : Type 0
RowsOfAFeedAreItsFirst = (requests : List (List RequestRead)) (answers : List (ℕ × Outcome)) (feed : ℕ)
    → FitsFeeds (map length requests) (map (λ a. a.0) answers)
    → map request_of (filter (λ row. row.feed == feed) (rack_rows requests answers))
    ≡ take (count_by (λ a. a.0 == feed) answers) (slice_index_or requests feed [])
