use Rattle.farm_reports.proofs.FeedRows.{feed_rows}
use Rattle.farm_reports.proofs.report_laws.rows_of_a_feed_are_its_first.Goals as goal

pub returns : goal.returns
returns c = feed_rows
