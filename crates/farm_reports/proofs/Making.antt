-- A rack's rebuilt fragments, one more row.
use Rattle.std.proofs.Common.{◌≡◌, ◌<◌, ◌≤◌, ◌+◌, ◌++◌, ◌∙◌, ℕ, List, [], ◌∷◌, length, map, take, get_or, sym, ap, arith, append_assoc}
use Rattle.std.proofs.lemmas.List.{append-nil, take_all, length-map, length-take, map_more}
use Rattle.farm_reports.specs.Written.{rack_files, rebuilt_file, rebuilt_files}
use Rattle.farm_lists.specs.Names.{report_name}
use Rattle.farm_reports.specs.Report.{Row, merged_report, row_of}
use Rattle.farm_reports.specs.declared.report.ReportRow.{ReportRow}
use Rattle.farm_reports.specs.declared.report.ReportShape.{ReportShape}

rebuilt_push : (k n : ℕ) (rows : List Row) (row : Row) → rebuilt_files k n (rows ++ row ∷ [])
    ≡ rebuilt_files k n rows ++ rebuilt_file k (n + length rows) row.listed row.outcome
rebuilt_push k n [] row = let same : n + 0 ≡ n = omega arith in rw same (append-nil (rebuilt_file k n row.listed row.outcome))
rebuilt_push k n (x ∷ rows) row =
    let same : n + length (x ∷ rows) ≡ (n + 1) + length rows = omega arith in
    rw (same, append_assoc) (ap (λ t. rebuilt_file k n x.listed x.outcome ++ t) (rebuilt_push k (n + 1) rows row))

pub rebuilt_step : (k : ℕ) (rows : List ReportRow) (i : ℕ) (row : ReportRow) (old before after : List (List ℕ × List ℕ)) → i < length rows
    → row ≡ get_or rows i row
    → before ≡ old ++ rebuilt_files k 0 (map row_of (take i rows))
    → after ≡ before ++ rebuilt_file k i row.listed.now row.outcome.now
    → after ≡ old ++ rebuilt_files k 0 (map row_of (take (i + 1) rows))
rebuilt_step k rows i row old before after within is so grew =
    let front = map row_of (take i rows) in
    let more : map row_of (take (i + 1) rows) ≡ front ++ row_of row ∷ [] =
    map_more row_of rows i row within ∙ ap (λ r. front ++ row_of r ∷ []) (sym is) in
    let place : 0 + length (map row_of (take i rows)) ≡ i = omega (arith, length-map (take i rows) row_of, length-take i rows) in
    grew ∙ ap (λ t. t ++ rebuilt_file k i row.listed.now row.outcome.now) so
    ∙ append_assoc old (rebuilt_files k 0 front) (rebuilt_file k i row.listed.now row.outcome.now)
    ∙ ap (λ t. old ++ t) (sym (ap (rebuilt_files k 0) more ∙ rebuilt_push k 0 front (row_of row)
    ∙ ap (λ n. rebuilt_files k 0 front ++ rebuilt_file k n row.listed.now row.outcome.now) place))

-- all of them, and the report
pub rack_done : (k : ℕ) (shape : ReportShape) (rows : List ReportRow) (n : ℕ) (old before after : List (List ℕ × List ℕ))
    (name bytes : List ℕ) → length rows ≤ n
    → before ≡ old ++ rebuilt_files k 0 (map row_of (take n rows))
    → after ≡ before ++ (name, bytes) ∷ [] → name ≡ report_name k → bytes ≡ merged_report shape (map row_of rows)
    → after ≡ old ++ rack_files k shape (map row_of rows)
rack_done k shape rows n old before after name bytes all so grew named is =
    let whole : before ≡ old ++ rebuilt_files k 0 (map row_of rows) =
    so ∙ ap (λ rs. old ++ rebuilt_files k 0 (map row_of rs)) (take_all n rows all) in
    grew ∙ ap (λ t. t ++ (name, bytes) ∷ []) whole ∙ append_assoc old (rebuilt_files k 0 (map row_of rows)) ((name, bytes) ∷ [])
    ∙ ap (λ (x : List ℕ). old ++ (rebuilt_files k 0 (map row_of rows) ++ (x, bytes) ∷ [])) named
    ∙ ap (λ (x : List ℕ). old ++ (rebuilt_files k 0 (map row_of rows) ++ (report_name k, x) ∷ [])) is
