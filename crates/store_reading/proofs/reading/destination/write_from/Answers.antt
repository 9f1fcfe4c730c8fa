use Rattle.folders.proofs.Runs.{keeps_after}
use Rattle.store_reading.proofs.reading.destination.write_from.Goals as goal

pub returns-in_err-remove-in_default-Ok-Some-clause-whenever : goal.returns-in_err-remove-in_default-Ok-Some-clause-whenever
returns-in_err-remove-in_default-Ok-Some-clause-whenever c = keeps_after _ _ _ _ _ c.new_beside.ensures.whenever c.remove.ensures

pub returns-in_ok-remove-in_default-Ok-Some-clause-whenever : goal.returns-in_ok-remove-in_default-Ok-Some-clause-whenever
returns-in_ok-remove-in_default-Ok-Some-clause-whenever c = keeps_after _ _ _ _ _ c.new_beside.ensures.whenever c.remove.ensures

pub returns-after-remove-clause-whenever : goal.returns-after-remove-clause-whenever
returns-after-remove-clause-whenever c = keeps_after _ _ _ _ _ c.new_beside.ensures.whenever c.remove-in_default-Err.ensures
