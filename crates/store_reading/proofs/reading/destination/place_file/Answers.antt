use Rattle.store_reading.proofs.Written.{puts_new}
use Rattle.store_reading.proofs.reading.destination.place_file.Goals as goal

pub returns-in_err-place_new-clause-whenever : goal.returns-in_err-place_new-clause-whenever
returns-in_err-place_new-clause-whenever g c = puts_new _ _ _ _ c.place_new.ensures.whenever

pub returns-in-Placed-clause-whenever : goal.returns-in-Placed-clause-whenever
returns-in-Placed-clause-whenever g c = puts_new _ _ _ _ c.place_new.ensures.whenever

pub returns-in-IsThere-clause-whenever : goal.returns-in-IsThere-clause-whenever
returns-in-IsThere-clause-whenever g c = puts_new _ _ _ _ c.place_new.ensures.whenever
