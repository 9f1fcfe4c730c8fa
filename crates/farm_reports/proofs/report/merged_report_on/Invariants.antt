use Rattle.std.proofs.Common.{take, map}
use Rattle.farm_reports.specs.Report.{merged_report, row_of}
use Rattle.farm_reports.specs.Writing.{HasWritten}
use Rattle.farm_reports.proofs.report.merged_report_on.Given as goal

abbrev pub invariant-loop-number : goal.invariant-loop-number
invariant-loop-number l = HasWritten (merged_report l.shape (map row_of (take l.number l.rows))) l.writer
