use Rattle.store_names.proofs.RunLaws.{each_its_own}
use Rattle.store_names.proofs.name_laws.each_part_leaves_only_its_own.Goals as goal

pub returns : goal.returns
returns c = each_its_own
