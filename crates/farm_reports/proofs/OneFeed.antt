-- Reports without further fields, and the files of racks with one feed.
use Rattle.std.proofs.Common.{◌≡◌, ◌<◌, ◌≤◌, ◌+◌, ◌++◌, ◌∙◌, ℕ, zero, suc, Bool, true, false, cond, List, [], ◌∷◌, Option, Some, None}
use Rattle.std.proofs.Common.{length, take, map, refl, ap, arith}
use Rattle.std.specs.Prelude.{count_by, option_map, option_and_then, ◌==◌, ◌||◌}
use Rattle.std.specs.List.{AllZip, filter_map, flat_map, list_any, range_with_len, slice_get}
use Rattle.std.proofs.lemmas.List.{length-map}
use Rattle.std.proofs.lemmas.List.Sums.{sum_by-cons}
use Rattle.lrc_code.specs.declared.places.Place.{Place}
use Rattle.lrc_code.specs.declared.outcomes.Outcome.{Outcome}
use Rattle.farm_lists.specs.Listed.{ListedRequest}
use Rattle.farm_lists.specs.Names.{report_name}
use Rattle.farm_lists.specs.Requests.{RequestRead}
use Rattle.farm_reports.specs.Report.{Row, is_wide, is_wide_read, merged_report, report_line, report_rows, rows_of_list}
use Rattle.farm_reports.specs.Report.{shape_of_list}
use Rattle.farm_reports.specs.ReportLaws.{FilesOfOneFeedAreOfItsList, NarrowReportHasSevenFields, list_files, lists_files, rebuilt_of_list}
use Rattle.farm_reports.specs.ReportLaws.{seven_fields, seven_names, seven_rows}
use Rattle.farm_reports.specs.Rows.{position, rack_rows, rack_shape, row_at, row_of_number}
use Rattle.farm_reports.specs.Written.{answered_files, files_from, rack_files, rebuilt_file, rebuilt_files}
use Rattle.farm_reports.specs.declared.report.ReportShape.{ReportShape}

-- ---- seven fields

plain_shape : ReportShape
plain_shape = record { feeds = false; codes = false }

plain_rows : (n : ℕ) (rs : List ListedRequest) (os : List Outcome) (us : List (List Place))
    → report_rows plain_shape n (rows_of_list rs os us) ≡ seven_rows n rs os us
unfolding plain_shape
plain_rows n [] os us = refl
plain_rows n (r ∷ rs) [] us = refl
plain_rows n (r ∷ rs) (o ∷ os) [] = refl
plain_rows n (r ∷ rs) (o ∷ os) (u ∷ us) = ap (λ rows. seven_fields n r o u ∷ rows) (plain_rows (n + 1) rs os us)

pub narrow_report : NarrowReportHasSevenFields
unfolding plain_shape
narrow_report rs os us narrow =
    ap (λ codes. merged_report (record { feeds = false; codes = codes }) (rows_of_list rs os us)) narrow
    ∙ ap (λ rows. flat_map report_line (seven_names ∷ rows)) (plain_rows 0 rs os us)

-- ---- one feed

or_false : (b : Bool) → (b || false) ≡ b
or_false true = refl
or_false false = refl

first_feed : Outcome → ℕ × Outcome
first_feed o = (0, o)

position_is : (os : List Outcome) (n : ℕ) → n ≤ length os → count_by (λ a. a.0 == 0) (take n (map first_feed os)) ≡ n
unfolding first_feed
position_is [] zero below = refl
position_is [] (suc n) below = absurd (omega arith)
position_is (o ∷ os) zero below = refl
position_is (o ∷ os) (suc n) below =
    let step = sum_by-cons (λ (a : ℕ × Outcome). cond (a.0 == 0) 1 0) (0, o) (take n (map first_feed os)) in
    let rest = position_is os n (omega arith) in
    omega (arith, step, rest)

-- the row at a position of two lists
abbrev two_at : List RequestRead → List Outcome → ℕ → Option Row
two_at rs os i = option_and_then (λ o. row_at (rs ∷ []) (0, o) i) (slice_get os i)

get_first : (os : List Outcome) (n : ℕ) → slice_get (map first_feed os) n ≡ option_map first_feed (slice_get os n)
get_first [] n = refl
get_first (o ∷ os) zero = refl
get_first (o ∷ os) (suc n) = get_first os n

number_at : (rs : List RequestRead) (os : List Outcome) (n : ℕ) → n < length os
    → row_of_number (rs ∷ []) (map first_feed os) n ≡ two_at rs os n
unfolding first_feed
number_at rs os n below = ap (λ s. option_and_then (λ a. row_at (rs ∷ []) a (position (map first_feed os) a.0 n)) s) (get_first os n)
    ∙ by (slice_get os n)
  where
    by : (s : Option Outcome) → option_and_then (λ a. row_at (rs ∷ []) a (position (map first_feed os) a.0 n)) (option_map first_feed s)
        ≡ option_and_then (λ o. row_at (rs ∷ []) (0, o) n) s
    by None = refl
    by (Some o) = ap (λ p. row_at (rs ∷ []) (0, o) p) (position_is os n (omega arith))

-- the requests as listed, and what was left out of each
abbrev listed_of : List RequestRead → List ListedRequest
listed_of rs = map (λ r. r.listed) rs

abbrev unread_of : List RequestRead → List (List Place)
unread_of rs = map (λ r. r.unread) rs

rows_are : (h : ℕ → Option Row) (a : ℕ) (rs : List RequestRead) (os : List Outcome) → length os ≡ length rs
    → ((i : ℕ) → i < length os → h (a + i) ≡ two_at rs os i)
    → filter_map h (range_with_len a (length os)) ≡ rows_of_list (listed_of rs) os (unread_of rs)
rows_are h a [] [] e at = refl
rows_are h a [] (o ∷ os) e at = absurd (omega arith)
rows_are h a (r ∷ rs) [] e at = absurd (omega arith)
rows_are h a (r ∷ rs) (o ∷ os) e at =
    let start : a ≡ a + 0 = omega arith in
    let first : h a ≡ Some (record { feed = 0; listed = r.listed; outcome = o; unread = r.unread }) = ap h start ∙ at 0 (omega arith) in
    let rest = rows_are h (a + 1) rs os (omega arith) (λ i below. let next : (a + 1) + i ≡ a + suc i =
    omega arith in ap h next ∙ at (suc i) (omega arith)) in
    rw first (ap (λ rows. record { feed = 0; listed = r.listed; outcome = o; unread = r.unread } ∷ rows) rest)

one_rack : (rs : List RequestRead) (os : List Outcome) → length os ≡ length rs
    → rack_rows (rs ∷ []) (map first_feed os) ≡ rows_of_list (listed_of rs) os (unread_of rs)
one_rack rs os e =
    let h = row_of_number (rs ∷ []) (map first_feed os) in
    ap (λ m. filter_map h (range_with_len 0 m)) (length-map os first_feed)
    ∙ rows_are h 0 rs os e (λ i below. let same : 0 + i ≡ i = omega arith in ap h same ∙ number_at rs os i below)

any_listed : (rs : List RequestRead) → list_any is_wide_read rs ≡ list_any is_wide (listed_of rs)
any_listed [] = refl
any_listed (r ∷ rs) = ap (λ b. is_wide r.listed || b) (any_listed rs)

one_shape : (rs : List RequestRead) → rack_shape (rs ∷ []) ≡ shape_of_list (listed_of rs)
one_shape rs = ap (λ codes. record { feeds = false; codes = codes }) (or_false (list_any is_wide_read rs) ∙ any_listed rs)

rebuilt_rows : (k n : ℕ) (rs : List RequestRead) (os : List Outcome) → length os ≡ length rs
    → rebuilt_files k n (rows_of_list (listed_of rs) os (unread_of rs)) ≡ rebuilt_of_list k n (listed_of rs) os
rebuilt_rows k n [] [] e = refl
rebuilt_rows k n [] (o ∷ os) e = absurd (omega arith)
rebuilt_rows k n (r ∷ rs) [] e = absurd (omega arith)
rebuilt_rows k n (r ∷ rs) (o ∷ os) e = ap (λ files. rebuilt_file k n r.listed o ++ files) (rebuilt_rows k (n + 1) rs os (omega arith))

one_feed : (k : ℕ) (rs : List RequestRead) (os : List Outcome) → length os ≡ length rs
    → answered_files k (rs ∷ []) (map first_feed os) ≡ list_files k (listed_of rs) os (unread_of rs)
one_feed k rs os e =
    ap (λ rows. rack_files k (rack_shape (rs ∷ [])) rows) (one_rack rs os e)
    ∙ ap (λ shape. rack_files k shape (rows_of_list (listed_of rs) os (unread_of rs))) (one_shape rs)
    ∙ ap (λ files. files ++ (report_name k, merged_report (shape_of_list (listed_of rs)) (rows_of_list (listed_of rs) os (unread_of rs)))
    ∷ []) (rebuilt_rows k 0 rs os e)

all_racks : (k : ℕ) (lists : List (List RequestRead)) (answers : List (List Outcome))
    → AllZip (λ rs os. length os ≡ length rs) lists answers
    → files_from k (map (λ rs. rs ∷ []) lists) (map (λ os. map first_feed os) answers) ≡ lists_files k lists answers
all_racks k [] [] e = refl
all_racks k [] (os ∷ answers) e = absurd e
all_racks k (rs ∷ lists) [] e = absurd e
all_racks k (rs ∷ lists) (os ∷ answers) e =
    ap (λ files. files ++ files_from (k + 1) (map (λ x. x ∷ []) lists) (map (λ x. map first_feed x) answers)) (one_feed k rs os e.0)
    ∙ ap (λ files. list_files k (listed_of rs) os (unread_of rs) ++ files) (all_racks (k + 1) lists answers e.1)

pub files_of_one_feed : FilesOfOneFeedAreOfItsList
unfolding first_feed
files_of_one_feed lists answers e = all_racks 0 lists answers e
