use Rattle.farm_reports.proofs.OneFeed.{files_of_one_feed}
use Rattle.farm_reports.proofs.report_laws.files_of_one_feed_are_of_its_list.Goals as goal

pub returns : goal.returns
returns c = files_of_one_feed
