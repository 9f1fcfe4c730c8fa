use Rattle.std.proofs.Common.{refl, subst, take, map}
use Rattle.farm_reports.specs.Report.{merged_report, row_of}
use Rattle.farm_reports.specs.Writing.{HasWritten}
use Rattle.farm_reports.proofs.ReportLines.{report_step}
use Rattle.farm_reports.proofs.report.merged_report_on.Goals as goal

pub loop-number-preserved : goal.loop-number-preserved
loop-number-preserved c =
    let text = merged_report c.args.shape (map row_of (take c.loop-number.number c.args.rows.now)) in
    subst (λ t. HasWritten t c.write_row.new.writer)
    (report_step c.args.shape c.args.rows.now c.loop-number.number c.index-rows-number.result text _ c.loop-number-test.true
    c.index-rows-number.is refl refl)
    (c.in_ok-write_row.ensures text c.loop-number.invariant)
