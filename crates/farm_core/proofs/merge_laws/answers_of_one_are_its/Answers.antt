use Rattle.farm_core.proofs.Merges.{answers_of_one}
use Rattle.farm_core.proofs.merge_laws.answers_of_one_are_its.Goals as goal

pub returns : goal.returns
returns c = answers_of_one
