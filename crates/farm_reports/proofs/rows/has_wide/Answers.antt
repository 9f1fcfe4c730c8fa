use Rattle.std.proofs.Common.{◌≡◌, ◌∙◌, map, get_or, refl, sym, ap, arith}
use Rattle.std.proofs.lemmas.List.{get_or-map, length-map}
use Rattle.std.proofs.lemmas.List.Folds.{list_any_at, list_any_more}
use Rattle.farm_lists.specs.Requests.{read_of}
use Rattle.farm_reports.specs.Report.{is_wide_read}
use Rattle.farm_reports.proofs.rows.has_wide.Goals as goal

pub returns-then-is_wide_request : goal.returns-then-is_wide_request
returns-then-is_wide_request c =
    let r = c.index-requests-index.result in
    let same : get_or (map read_of c.args.requests.now) c.loop-index.index (read_of r)
    ≡ read_of (get_or c.args.requests.now c.loop-index.index r) =
    get_or-map read_of c.args.requests.now c.loop-index.index r (read_of r) c.loop-index-test.true in
    sym (list_any_at is_wide_read (map read_of c.args.requests.now) c.loop-index.index (read_of r)
    (omega (arith, length-map c.args.requests.now read_of, c.loop-index-test.true))
    (ap is_wide_read same ∙ sym c.is_wide_request.ensures ∙ c.if-is_wide_request.true))

pub loop-index-preserved : goal.loop-index-preserved
loop-index-preserved c =
    let r = c.index-requests-index.result in
    let same : get_or (map read_of c.args.requests.now) c.loop-index.index (read_of r)
    ≡ read_of (get_or c.args.requests.now c.loop-index.index r) =
    get_or-map read_of c.args.requests.now c.loop-index.index r (read_of r) c.loop-index-test.true in
    let narrow = ap is_wide_read same ∙ sym c.is_wide_request.ensures ∙ c.if-is_wide_request.false in
    list_any_more is_wide_read (map read_of c.args.requests.now) c.loop-index.index (read_of r)
    (omega (arith, length-map c.args.requests.now read_of, c.loop-index-test.true))
    ∙ rw (c.loop-index.invariant, narrow) refl
