use Rattle.folders.proofs.Runs.{keeps_after}
use Rattle.store_folder.proofs.syncing.Touched.sync.Goals as goal

pub returns-in-Err-clause-whenever : goal.returns-in-Err-clause-whenever
returns-in-Err-clause-whenever g c = keeps_after _ _ _ _ _ c.sync_until_fault.ensures.whenever c.sync_rest.ensures
