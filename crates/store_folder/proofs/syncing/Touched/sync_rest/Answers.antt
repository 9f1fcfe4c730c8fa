use Rattle.folders.proofs.Runs.{keeps_all, keeps_after}
use Rattle.store_folder.proofs.syncing.Touched.sync_rest.Goals as goal

pub folders-init : goal.folders-init
folders-init g c = keeps_all _ _ _

pub folders-preserved : goal.folders-preserved
folders-preserved g c = keeps_after _ _ _ _ _ c.folders.invariant c.sync_names_of.ensures.whenever

pub folders-preserved-in-Err : goal.folders-preserved-in-Err
folders-preserved-in-Err g c = keeps_after _ _ _ _ _ c.folders.invariant c.sync_names_of.ensures.whenever

pub folders-preserved-in-Err-2 : goal.folders-preserved-in-Err-2
folders-preserved-in-Err-2 g c = keeps_after _ _ _ _ _ c.folders.invariant c.sync_names_of.ensures.whenever

pub returns : goal.returns
returns g c = c.folders.invariant
