use Rattle.store_names.proofs.RunLaws.{no_fragment_unfinished}
use Rattle.store_names.proofs.name_laws.unfinished_is_no_fragment.Goals as goal

pub returns : goal.returns
returns c = no_fragment_unfinished
