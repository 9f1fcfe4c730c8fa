use Rattle.folders.proofs.Runs.{keeps_after, keeps_all}
use Rattle.store_encoding.proofs.encoding.placing.say_rest.Goals as goal

pub folders-init : goal.folders-init
folders-init g c = keeps_all _ _ _

pub folders-preserved : goal.folders-preserved
folders-preserved g c = keeps_after _ _ _ _ _ c.folders.invariant c.say_next.ensures
