use Rattle.folders.proofs.Runs.{keeps_all}
use Rattle.store_folder.specs.Temporary.{is_temporary}
use Rattle.store_folder.proofs.placing.place_whole.Goals as goal

pub returns-in-Ok-clause-whenever : goal.returns-in-Ok-clause-whenever
returns-in-Ok-clause-whenever g c = c.place.ensures.whenever is_temporary

pub returns-in-Err-clause-whenever : goal.returns-in-Err-clause-whenever
returns-in-Err-clause-whenever g c = keeps_all _ _ _
