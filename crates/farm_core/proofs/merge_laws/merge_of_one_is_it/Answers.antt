use Rattle.farm_core.proofs.Merges.{merge_of_one}
use Rattle.farm_core.proofs.merge_laws.merge_of_one_is_it.Goals as goal

pub returns : goal.returns
returns c = merge_of_one
