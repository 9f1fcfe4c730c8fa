-- What a report says.
use Rattle.std.specs.Prelude.{◌+◌, ◌++◌, ℕ, Bool, true, false, List, [], ◌∷◌, Option, Some, None, codes, decimal, map}
use Rattle.std.specs.List.{flat_map, join_with_byte, list_any}
use Rattle.hex.specs.Hex.{encode_lower}
use Rattle.sha2.specs.Sha256.{sha256}
use Rattle.lrc_code.specs.declared.codes.Code.{Code as CodeName}
use Rattle.lrc_code.specs.declared.codes.Code.TheVariants.{Narrow, Wide}
use Rattle.lrc_code.specs.Codes.{code_text}
use Rattle.lrc_code.specs.declared.places.Place.{Place}
use Rattle.lrc_code.specs.declared.outcomes.Outcome.{Outcome}
use Rattle.lrc_code.specs.declared.outcomes.Outcome.TheVariants as outcome
use Rattle.lrc_code.specs.Places.{name_of}
use Rattle.farm_lists.specs.Listed.{ListedRequest}
use Rattle.farm_lists.specs.Requests.{RequestRead}
use Rattle.farm_reports.specs.declared.report.ReportShape.{ReportShape}
use Rattle.farm_reports.specs.declared.report.ReportRow.{ReportRow}

abbrev pub outcome_name : Outcome → List ℕ
outcome_name (outcome.Rebuilt f) = codes "rebuilt"
outcome_name outcome.Contradiction = codes "contradiction"
outcome_name outcome.Several = codes "several"

-- the SHA-256 digest of a rebuilt fragment
abbrev pub fragment_digest : Outcome → Option (List ℕ)
fragment_digest (outcome.Rebuilt f) = Some (sha256 f)
fragment_digest outcome.Contradiction = None
fragment_digest outcome.Several = None

-- the fragment of an outcome, where it was rebuilt
abbrev pub rebuilt_fragment : Outcome → List (List ℕ)
rebuilt_fragment (outcome.Rebuilt f) = f ∷ []
rebuilt_fragment outcome.Contradiction = []
rebuilt_fragment outcome.Several = []

-- a digest in hexadecimal, and nothing where there is none
abbrev pub digest_text : Option (List ℕ) → List ℕ
digest_text (Some d) = encode_lower d
digest_text None = []

-- a row of a report: the feed of the request, the request as listed, its outcome, and the listed survivors that were left out
pub record Row : Type 0 where
  pub feed : ℕ
  pub listed : ListedRequest
  pub outcome : Outcome
  pub unread : List Place

-- a row without where its parts lie in memory
abbrev pub row_of : ReportRow → Row
row_of r = record { feed = r.feed; listed = r.listed.now; outcome = r.outcome.now; unread = r.unread.now }

-- a field that only some shapes of a report have
abbrev pub field_if : Bool → List ℕ → List (List ℕ)
field_if true field = field ∷ []
field_if false field = []

-- the names of the fields
abbrev pub report_header : ReportShape → List (List ℕ)
report_header shape =
    codes "number" ∷ (field_if shape.feeds (codes "feed")
    ++ codes "stripe" ∷ codes "target" ∷ codes "length" ∷ codes "outcome" ∷ codes "digest" ∷ codes "unread" ∷ field_if shape.codes
    (codes "code"))

-- the fields of row n
abbrev pub report_fields : ReportShape → ℕ → Row → List (List ℕ)
report_fields shape n row =
    decimal n ∷ (field_if shape.feeds (decimal row.feed)
    ++ row.listed.stripe ∷ name_of row.listed.target ∷ decimal row.listed.len ∷ outcome_name row.outcome ∷ digest_text
    (fragment_digest row.outcome)
    ∷ join_with_byte 32 (map name_of row.unread) ∷ field_if shape.codes (code_text row.listed.code))

-- the fields of the rows from the n-th on
abbrev pub report_rows : ReportShape → ℕ → List Row → List (List (List ℕ))
report_rows shape n [] = []
report_rows shape n (row ∷ rows) = report_fields shape n row ∷ report_rows shape (n + 1) rows

-- fields with a comma between two, and a line feed
abbrev pub report_line : List (List ℕ) → List ℕ
report_line fields = join_with_byte 44 fields ++ 10 ∷ []

-- the report of a shape on rows
abbrev pub merged_report : ReportShape → List Row → List ℕ
merged_report shape rows = flat_map report_line (report_header shape ∷ report_rows shape 0 rows)

-- ---- a single list

abbrev pub is_wide_code : CodeName → Bool
is_wide_code Narrow = false
is_wide_code Wide = true

-- whether a request is of the (12,2,2) code
abbrev pub is_wide : ListedRequest → Bool
is_wide r = is_wide_code r.code

-- the rows of one list's requests, with their outcomes and the survivors of each that were left out
abbrev pub rows_of_list : List ListedRequest → List Outcome → List (List Place) → List Row
rows_of_list [] os us = []
rows_of_list (r ∷ rs) [] us = []
rows_of_list (r ∷ rs) (o ∷ os) [] = []
rows_of_list (r ∷ rs) (o ∷ os) (u ∷ us) = record { feed = 0; listed = r; outcome = o; unread = u } ∷ rows_of_list rs os us

-- whether a request that was read is
abbrev pub is_wide_read : RequestRead → Bool
is_wide_read r = is_wide r.listed

-- the shape of the report on one list: it says the codes where a request is of the (12,2,2) code
abbrev pub shape_of_list : List ListedRequest → ReportShape
shape_of_list rs = record { feeds = false; codes = list_any is_wide rs }

-- the report on one list's requests, with their outcomes and the survivors of each that were left out
abbrev pub report : List ListedRequest → List Outcome → List (List Place) → List ℕ
report rs os us = merged_report (shape_of_list rs) (rows_of_list rs os us)
