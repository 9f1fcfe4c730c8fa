use Rattle.std.proofs.Common.{◌∙◌, ap, map}
use Rattle.std.proofs.lemmas.List.{map-append}
use Rattle.farm_reports.specs.Report.{Row, row_of}
use Rattle.farm_reports.proofs.ReportLines.{list_rows_step}
use Rattle.farm_reports.proofs.report.list_rows.Goals as goal

pub loop-index-preserved : goal.loop-index-preserved
loop-index-preserved c =
    let pushed : Row = record {
      feed = 0;
      listed = c.index-requests-index.result.now;
      outcome = c.index-outcomes-index.result;
      unread = c.as_slice.result.now;
    } in
    list_rows_step c.args.requests.now c.args.outcomes.now c.args.unread.now c.loop-index.index c.index-requests-index.result
    c.index-outcomes-index.result c.index-unread-index.result pushed
    (map row_of c.loop-index.rows.items) (map row_of c.push.new.self.items) c.loop-index-test.true c.requires.outcomes c.requires.unread
    c.index-requests-index.is c.index-outcomes-index.is c.index-unread-index.is
    (ap (λ u. record {
      feed = 0;
      listed = c.index-requests-index.result.now;
      outcome = c.index-outcomes-index.result;
      unread = u;
    }) c.as_slice.ensures.value) c.loop-index.invariant
    (ap (map row_of) c.in_ok-push.ensures.items ∙ map-append row_of c.loop-index.rows.items _)
