use Rattle.folders.proofs.Runs.{keeps_all, keeps_after}
use Rattle.store_folder.proofs.unfinished.create_unfinished.Goals as goal

pub loop-name-init : goal.loop-name-init
loop-name-init g c = keeps_all _ _ _

pub returns-in_err-new-clause-whenever : goal.returns-in_err-new-clause-whenever
returns-in_err-new-clause-whenever g c = keeps_after _ _ _ _ _ c.loop-name.invariant c.try_name.ensures.whenever

pub returns-in-Some-clause-whenever : goal.returns-in-Some-clause-whenever
returns-in-Some-clause-whenever g c = keeps_after _ _ _ _ _ c.loop-name.invariant c.try_name.ensures.whenever

pub loop-name-preserved : goal.loop-name-preserved
loop-name-preserved g c = keeps_after _ _ _ _ _ c.loop-name.invariant c.try_name.ensures.whenever
