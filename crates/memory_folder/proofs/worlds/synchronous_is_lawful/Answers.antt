use Rattle.memory_folder.proofs.Synchronous.{lawful}
use Rattle.memory_folder.proofs.worlds.synchronous_is_lawful.Goals as goal

pub returns : goal.returns
returns c = lawful
