use Rattle.folders.proofs.Runs.{keeps_after}
use Rattle.store_encoding.proofs.encoding.descriptions.filled.Goals as goal

pub returns-in_err-discard_new-in-Err-clause-whenever :
    goal.returns-in_err-discard_new-in-Err-clause-whenever
returns-in_err-discard_new-in-Err-clause-whenever g c = keeps_after _ _ _ _ _ c.new_file.ensures.whenever c.discard_new.ensures.whenever

pub returns-in_ok-discard_new-in-Err-clause-whenever :
    goal.returns-in_ok-discard_new-in-Err-clause-whenever
returns-in_ok-discard_new-in-Err-clause-whenever g c = keeps_after _ _ _ _ _ c.new_file.ensures.whenever c.discard_new.ensures.whenever
