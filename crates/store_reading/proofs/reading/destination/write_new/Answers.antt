use Rattle.folders.proofs.Runs.{keeps_after}
use Rattle.store_reading.proofs.reading.destination.write_new.Goals as goal

pub returns-in_err-file-2-clause-whenever : goal.returns-in_err-file-2-clause-whenever
returns-in_err-file-2-clause-whenever c = keeps_after _ _ _ _ _ c.write_from.ensures.whenever c.write_from-2.ensures.whenever

pub returns-in-Right-2-clause-whenever : goal.returns-in-Right-2-clause-whenever
returns-in-Right-2-clause-whenever c = keeps_after _ _ _ _ _ c.write_from.ensures.whenever c.write_from-2.ensures.whenever

pub returns-in-Wrong-Other-2-clause-whenever : goal.returns-in-Wrong-Other-2-clause-whenever
returns-in-Wrong-Other-2-clause-whenever c = keeps_after _ _ _ _ _ c.write_from.ensures.whenever c.write_from-2.ensures.whenever

pub returns-in-Wrong-Unread-2-clause-whenever : goal.returns-in-Wrong-Unread-2-clause-whenever
returns-in-Wrong-Unread-2-clause-whenever c = keeps_after _ _ _ _ _ c.write_from.ensures.whenever c.write_from-2.ensures.whenever
