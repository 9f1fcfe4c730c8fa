use Rattle.farm_reports.proofs.OneFeed.{narrow_report}
use Rattle.farm_reports.proofs.report_laws.narrow_report_has_seven_fields.Goals as goal

pub returns : goal.returns
returns c = narrow_report
