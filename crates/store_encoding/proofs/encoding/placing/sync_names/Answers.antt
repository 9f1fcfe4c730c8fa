use Rattle.folders.proofs.Runs.{keeps_after}
use Rattle.store_encoding.proofs.encoding.placing.sync_names.Goals as goal

pub returns-clause-whenever : goal.returns-clause-whenever
returns-clause-whenever g c = keeps_after _ _ _ _ _ c.sync.ensures.whenever c.say_rest.ensures
