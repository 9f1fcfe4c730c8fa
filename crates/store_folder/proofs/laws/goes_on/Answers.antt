use Rattle.store_folder.proofs.GoingOn.{both_go_on}
use Rattle.store_folder.proofs.laws.goes_on.Goals as goal

pub returns : goal.returns
returns c = both_go_on
