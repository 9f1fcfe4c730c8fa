use Rattle.farm_files.proofs.OneFeedServed.{served_as_lists}
use Rattle.farm_files.proofs.serving_laws.racks_of_one_feed_are_served_as_lists.Goals as goal

pub returns : goal.returns
returns c = served_as_lists
