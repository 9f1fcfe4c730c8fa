use Rattle.std.proofs.Common.{◌≡◌, ◌∙◌, Bor, map, get_or, refl, sym, ap, arith}
use Rattle.std.proofs.lemmas.List.{get_or-map, length-map}
use Rattle.std.proofs.lemmas.List.Folds.{list_any_at, list_any_more}
use Rattle.farm_lists.specs.Listed.{ListedRequest}
use Rattle.farm_reports.specs.Report.{is_wide}
use Rattle.farm_reports.proofs.report.has_wide.Goals as goal

pub returns-then-is_wide_request : goal.returns-then-is_wide_request
returns-then-is_wide_request c =
    let now = λ (r : Bor ListedRequest). r.now in
    let r = c.index-requests-index.result in
    let same : get_or (map now c.args.requests.now) c.loop-index.index r.now ≡ r.now =
    get_or-map now c.args.requests.now c.loop-index.index r r.now c.loop-index-test.true ∙ ap now (sym c.index-requests-index.is) in
    sym (list_any_at is_wide (map now c.args.requests.now) c.loop-index.index r.now
    (omega (arith, length-map c.args.requests.now now, c.loop-index-test.true))
    (ap is_wide same ∙ sym c.is_wide_request.ensures ∙ c.if-is_wide_request.true))

pub loop-index-preserved : goal.loop-index-preserved
loop-index-preserved c =
    let now = λ (r : Bor ListedRequest). r.now in
    let r = c.index-requests-index.result in
    let same : get_or (map now c.args.requests.now) c.loop-index.index r.now ≡ r.now =
    get_or-map now c.args.requests.now c.loop-index.index r r.now c.loop-index-test.true ∙ ap now (sym c.index-requests-index.is) in
    let narrow = ap is_wide same ∙ sym c.is_wide_request.ensures ∙ c.if-is_wide_request.false in
    list_any_more is_wide (map now c.args.requests.now) c.loop-index.index r.now
    (omega (arith, length-map c.args.requests.now now, c.loop-index-test.true))
    ∙ rw (c.loop-index.invariant, narrow) refl
