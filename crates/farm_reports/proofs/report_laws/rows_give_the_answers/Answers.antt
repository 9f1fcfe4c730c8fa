use Rattle.farm_reports.proofs.RackRows.{rows_give}
use Rattle.farm_reports.proofs.report_laws.rows_give_the_answers.Goals as goal

pub returns : goal.returns
returns c = rows_give
