use Rattle.store_names.proofs.Partition.{partition}
use Rattle.store_names.proofs.name_laws.parts_are_partition.Goals as goal

pub returns : goal.returns
returns c = partition
