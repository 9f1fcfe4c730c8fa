use Rattle.std.proofs.Common.{◌≡◌, ◌∙◌, Bool, Vec, Global, List, map, get_or, refl, sym, ap, arith}
use Rattle.std.specs.List.{list_any}
use Rattle.std.proofs.lemmas.List.{get_or-map, length-map}
use Rattle.std.proofs.lemmas.List.Folds.{list_any_at, list_any_more}
use Rattle.farm_lists.specs.Requests.{RequestRead, read_of}
use Rattle.farm_reports.specs.Report.{is_wide_read}
use Rattle.farm_lists.specs.declared.requests.ReadRequest.{ReadRequest}
use Rattle.farm_reports.proofs.rows.any_wide.Goals as goal
use Rattle.farm_reports.proofs.rows.any_wide.Goals.{After-has_wide}

values : Vec ReadRequest Global → List RequestRead
values rs = map read_of rs.items

wide : List RequestRead → Bool
wide rs = list_any is_wide_read rs

-- what the call answered is of the list at the index
said : (c : After-has_wide) → c.has_wide.result ≡ wide (get_or (map values c.args.requests.now) c.loop-index.index
    (values c.index-requests-index.result))
unfolding values wide
said c =
    let rs = c.index-requests-index.result in
    c.has_wide.ensures ∙ ap (λ (items : List ReadRequest). list_any is_wide_read (map read_of items)) c.as_slice.ensures.value
    ∙ ap wide (sym (get_or-map values c.args.requests.now c.loop-index.index rs (values rs) c.loop-index-test.true
    ∙ ap values (sym c.index-requests-index.is)))

pub returns-then-has_wide : goal.returns-then-has_wide
unfolding values wide
returns-then-has_wide c =
    let at = (goal.at.returns-then-has_wide c).After-has_wide in
    sym (list_any_at wide (map values c.args.requests.now) c.loop-index.index (values c.index-requests-index.result)
    (omega (arith, length-map c.args.requests.now values, c.loop-index-test.true))
    (sym (said at) ∙ c.if-has_wide.true))

pub loop-index-preserved : goal.loop-index-preserved
unfolding values wide
loop-index-preserved c =
    let at = (goal.at.loop-index-preserved c).After-has_wide in
    let narrow = sym (said at) ∙ c.if-has_wide.false in
    list_any_more wide (map values c.args.requests.now) c.loop-index.index (values c.index-requests-index.result)
    (omega (arith, length-map c.args.requests.now values, c.loop-index-test.true))
    ∙ rw (c.loop-index.invariant, narrow) refl
