use Rattle.store_names.proofs.RunLaws.{no_lock_unfinished}
use Rattle.store_names.proofs.name_laws.lock_is_whole.Goals as goal

pub returns : goal.returns
returns c = no_lock_unfinished
