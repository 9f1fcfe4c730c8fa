-- The files that are written, in their order: a name and its bytes.
use Rattle.std.specs.Prelude.{◌+◌, ◌++◌, ℕ, List, [], ◌∷◌}
use Rattle.lrc_code.specs.declared.outcomes.Outcome.{Outcome}
use Rattle.lrc_code.specs.declared.outcomes.Outcome.TheVariants as outcome
use Rattle.farm_lists.specs.Listed.{ListedRequest}
use Rattle.farm_lists.specs.Names.{rebuilt_name, report_name}
use Rattle.farm_lists.specs.Requests.{RequestRead}
use Rattle.farm_reports.specs.Report.{Row, merged_report}
use Rattle.farm_reports.specs.Rows.{rack_rows, rack_shape}
use Rattle.farm_reports.specs.declared.report.ReportShape.{ReportShape}

-- the fragment of request n of a rack, where it was rebuilt
abbrev pub rebuilt_file : ℕ → ℕ → ListedRequest → Outcome → List (List ℕ × List ℕ)
rebuilt_file k n r (outcome.Rebuilt f) = (rebuilt_name k n r.stripe r.target, f) ∷ []
rebuilt_file k n r outcome.Contradiction = []
rebuilt_file k n r outcome.Several = []

-- the rebuilt fragments of the rows from the n-th on
abbrev pub rebuilt_files : ℕ → ℕ → List Row → List (List ℕ × List ℕ)
rebuilt_files k n [] = []
rebuilt_files k n (row ∷ rows) = rebuilt_file k n row.listed row.outcome ++ rebuilt_files k (n + 1) rows

-- a rack's rebuilt fragments, then its report
abbrev pub rack_files : ℕ → ReportShape → List Row → List (List ℕ × List ℕ)
rack_files k shape rows = rebuilt_files k 0 rows ++ (report_name k, merged_report shape rows) ∷ []

-- the files of a rack with these requests, feed by feed, and these answers, each with its feed's number
abbrev pub answered_files : ℕ → List (List RequestRead) → List (ℕ × Outcome) → List (List ℕ × List ℕ)
answered_files k requests answers = rack_files k (rack_shape requests) (rack_rows requests answers)

-- the files of the racks from the k-th on
abbrev pub files_from : ℕ → List (List (List RequestRead)) → List (List (ℕ × Outcome)) → List (List ℕ × List ℕ)
files_from k [] answers = []
files_from k (requests ∷ racks) [] = []
files_from k (requests ∷ racks) (a ∷ answers) = answered_files k requests a ++ files_from (k + 1) racks answers
