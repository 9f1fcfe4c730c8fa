use Rattle.store_encoding.proofs.Encoded.{each_quiet}
use Rattle.store_encoding.proofs.encoding.placing.place_fragments.Goals as goal

pub returns-in-Ok-Some-clause-whenever : goal.returns-in-Ok-Some-clause-whenever
returns-in-Ok-Some-clause-whenever g c = each_quiet _ _ _ _ _ c.discard_all-removed.ensures

pub returns-in-Err-clause-whenever : goal.returns-in-Err-clause-whenever
returns-in-Err-clause-whenever g c = each_quiet _ _ _ _ _ c.discard_all.ensures
