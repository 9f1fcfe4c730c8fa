-- A report, row by row.
use Rattle.std.proofs.Common.{◌≡◌, ◌<◌, ◌≤◌, ◌+◌, ◌++◌, ◌∙◌, Bor, Global, Vec, ℕ, zero, suc, List, [], ◌∷◌, length, take, map, get_or}
use Rattle.std.proofs.Common.{flat_map, refl, sym, ap, arith, append_assoc}
use Rattle.std.proofs.lemmas.List.{map_more, append-nil, take_more, get_or-map, length-map, length-take}
use Rattle.std.proofs.lemmas.List.Concat.{flat_map-append}
use Rattle.std.specs.List.{join_with_byte}
use Rattle.lrc_code.specs.declared.places.Place.{Place}
use Rattle.lrc_code.specs.declared.outcomes.Outcome.{Outcome}
use Rattle.lrc_code.specs.Places.{name_of}
use Rattle.farm_lists.specs.Listed.{ListedRequest}
use Rattle.farm_reports.specs.declared.report.ReportShape.{ReportShape}
use Rattle.farm_reports.specs.declared.report.ReportRow.{ReportRow}
use Rattle.farm_reports.specs.Report.{Row, merged_report, report_fields, report_header, report_line, report_rows, row_of, rows_of_list}

rows_push : (shape : ReportShape) (n : ℕ) (rows : List Row) (row : Row)
    → report_rows shape n (rows ++ row ∷ []) ≡ report_rows shape n rows ++ report_fields shape (n + length rows) row ∷ []
rows_push shape n [] row = let same : n + 0 ≡ n = omega arith in rw same refl
rows_push shape n (x ∷ rows) row =
    let same : n + length (x ∷ rows) ≡ (n + 1) + length rows = omega arith in
    rw same (ap (λ t. report_fields shape n x ∷ t) (rows_push shape (n + 1) rows row))

pub report_push : (shape : ReportShape) (rows : List Row) (row : Row)
    → merged_report shape (rows ++ row ∷ []) ≡ merged_report shape rows ++ report_line (report_fields shape (length rows) row)
report_push shape rows row =
    let place : 0 + length rows ≡ length rows = omega arith in
    ap (λ fields. flat_map report_line (report_header shape ∷ fields)) (rows_push shape 0 rows row)
    ∙ flat_map-append report_line (report_header shape ∷ report_rows shape 0 rows) (report_fields shape (0 + length rows) row ∷ [])
    ∙ ap (λ t. merged_report shape rows ++ t) (append-nil (report_line (report_fields shape (0 + length rows) row)))
    ∙ ap (λ n. merged_report shape rows ++ report_line (report_fields shape n row)) place

-- names with a space between two, one more
joined_push : (xs : List (List ℕ)) (y : List ℕ) → 0 < length xs → join_with_byte 32 (xs ++ y ∷ []) ≡ join_with_byte 32 xs ++ 32 ∷ y
joined_push [] y some = absurd (omega arith)
joined_push (x ∷ []) y some = refl
joined_push (x ∷ z ∷ xs) y some = rw append_assoc (ap (λ t. x ++ 32 ∷ t) (joined_push (z ∷ xs) y (omega arith)))

names_at : (ps : List Place) (i : ℕ) (p : Place) → i < length ps
    → map name_of (take (i + 1) ps) ≡ map name_of (take i ps) ++ name_of (get_or ps i p) ∷ []
names_at ps i p within = map_more name_of ps i p within

pub names_more : (ps : List Place) (i : ℕ) (p : Place) (text : List ℕ) → i < length ps → 0 < i
    → text ≡ join_with_byte 32 (map name_of (take i ps))
    → (text ++ 32 ∷ []) ++ name_of (get_or ps i p) ≡ join_with_byte 32 (map name_of (take (i + 1) ps))
names_more ps i p text within some e =
    let some_names : 0 < length (map name_of (take i ps)) = omega (arith, length-map (take i ps) name_of, length-take i ps) in
    rw (e, names_at ps i p within, append_assoc) (sym (joined_push (map name_of (take i ps)) (name_of (get_or ps i p)) some_names))

pub names_first : (ps : List Place) (i : ℕ) (p : Place) (text : List ℕ) → i < length ps → i ≤ 0
    → text ≡ join_with_byte 32 (map name_of (take i ps))
    → text ++ name_of (get_or ps i p) ≡ join_with_byte 32 (map name_of (take (i + 1) ps))
names_first [] i p text within first e = absurd (omega arith)
names_first (q ∷ ps) zero p text within first e = rw e refl
names_first (q ∷ ps) (suc i) p text within first e = absurd (omega arith)

-- one more line of a report
pub report_step : (shape : ReportShape) (rows : List ReportRow) (i : ℕ) (row : ReportRow) (text new : List ℕ) → i < length rows
    → row ≡ get_or rows i row
    → text ≡ merged_report shape (map row_of (take i rows))
    → new ≡ text ++ report_line (report_fields shape i (row_of row))
    → new ≡ merged_report shape (map row_of (take (i + 1) rows))
report_step shape rows i row text new within is so wrote =
    let front = map row_of (take i rows) in
    let size : length (map row_of (take i rows)) ≡ i = omega (arith, length-map (take i rows) row_of, length-take i rows) in
    let more : map row_of (take (i + 1) rows) ≡ front ++ row_of row ∷ [] =
    map_more row_of rows i row within ∙ ap (λ r. front ++ row_of r ∷ []) (sym is) in
    wrote ∙ ap (λ t. t ++ report_line (report_fields shape i (row_of row))) so
    ∙ sym (ap (merged_report shape) more ∙ report_push shape front (row_of row)
    ∙ ap (λ n. merged_report shape front ++ report_line (report_fields shape n (row_of row))) size)

-- ---- the rows of one list

rows_of_list_push : (rs : List ListedRequest) (os : List Outcome) (us : List (List Place)) (r : ListedRequest) (o : Outcome)
    (u : List Place) → length os ≡ length rs → length us ≡ length rs
    → rows_of_list (rs ++ r ∷ []) (os ++ o ∷ []) (us ++ u ∷ [])
    ≡ rows_of_list rs os us ++ record { feed = 0; listed = r; outcome = o; unread = u } ∷ []
rows_of_list_push [] [] [] r o u h k = refl
rows_of_list_push [] [] (x ∷ us) r o u h k = absurd (omega arith)
rows_of_list_push [] (x ∷ os) us r o u h k = absurd (omega arith)
rows_of_list_push (x ∷ rs) [] us r o u h k = absurd (omega arith)
rows_of_list_push (x ∷ rs) (y ∷ os) [] r o u h k = absurd (omega arith)
rows_of_list_push (x ∷ rs) (y ∷ os) (z ∷ us) r o u h k =
    ap (λ t. record { feed = 0; listed = x; outcome = y; unread = z } ∷ t) (rows_of_list_push rs os us r o u (omega arith) (omega arith))

pub list_rows_step : (requests : List (Bor ListedRequest)) (os : List Outcome) (unread : List (Vec Place Global)) (i : ℕ)
    (r : Bor ListedRequest) (o : Outcome) (u : Vec Place Global) (row : Row) (before after : List Row)
    → i < length requests → length os ≡ length requests → length unread ≡ length requests → r ≡ get_or requests i r → o ≡ get_or os i o
    → u ≡ get_or unread i u
    → row ≡ record { feed = 0; listed = r.now; outcome = o; unread = u.items }
    → before ≡ rows_of_list (take i (map (λ x. x.now) requests)) (take i os) (take i (map (λ x. x.items) unread))
    → after ≡ before ++ row ∷ []
    → after ≡ rows_of_list (take (i + 1) (map (λ x. x.now) requests)) (take (i + 1) os) (take (i + 1) (map (λ x. x.items) unread))
list_rows_step requests os unread i r o u row before after within h k er eo eu is so grew =
    let now = λ (x : Bor ListedRequest). x.now in
    let items = λ (x : Vec Place Global). x.items in
    let rs : List ListedRequest = map now requests in
    let us : List (List Place) = map items unread in
    let lr = length-map requests now in
    let lu = length-map unread items in
    let gr : get_or rs i r.now ≡ r.now = get_or-map now requests i r r.now within ∙ ap now (sym er) in
    let gu : get_or us i u.items ≡ u.items = get_or-map items unread i u u.items (omega arith) ∙ ap items (sym eu) in
    let a : take (i + 1) rs ≡ take i rs ++ r.now ∷ [] = take_more rs i r.now (omega (arith, lr)) ∙ ap (λ x. take i rs ++ x ∷ []) gr in
    let b : take (i + 1) os ≡ take i os ++ o ∷ [] = take_more os i o (omega (arith, h)) ∙ ap (λ x. take i os ++ x ∷ []) (sym eo) in
    let c : take (i + 1) us ≡ take i us ++ u.items ∷ [] =
    take_more us i u.items (omega (arith, lu, k)) ∙ ap (λ x. take i us ++ x ∷ []) gu in
    let lo : length (take i os) ≡ length (take i rs) = omega (arith, length-take i rs, length-take i os, lr) in
    let lu : length (take i us) ≡ length (take i rs) = omega (arith, length-take i rs, length-take i us, lr, lu) in
    grew ∙ ap (λ t. t ++ row ∷ []) so ∙ ap (λ x. rows_of_list (take i rs) (take i os) (take i us) ++ x ∷ []) is
    ∙ sym (ap (λ x. rows_of_list x (take (i + 1) os) (take (i + 1) us)) a
    ∙ ap (λ x. rows_of_list (take i rs ++ r.now ∷ []) x (take (i + 1) us)) b
    ∙ ap (λ x. rows_of_list (take i rs ++ r.now ∷ []) (take i os ++ o ∷ []) x) c
    ∙ rows_of_list_push (take i rs) (take i os) (take i us) r.now o u.items lo lu)
