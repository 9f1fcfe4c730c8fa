use Rattle.store_names.proofs.RunNames.{not_lock}
use Rattle.store_names.proofs.temporary.is_lock.Goals as goal

pub returns-in_default : goal.returns-in_default
returns-in_default c = not_lock c.args.name.now c.in_default.ensures
