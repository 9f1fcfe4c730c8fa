use Rattle.folders.proofs.Runs.{keeps_after, keeps_all}
use Rattle.store_encoding.proofs.encoding.placing.discard_all.Goals as goal

pub made-init : goal.made-init
made-init g c = keeps_all _ _ _

pub made-preserved : goal.made-preserved
made-preserved g c = keeps_after _ _ _ _ _ c.made.invariant c.discard_new.ensures.whenever
