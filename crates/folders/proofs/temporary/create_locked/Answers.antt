use Rattle.std.proofs.Common.{true, false}
use Rattle.folders.specs.Calls.{make}
use Rattle.folders.proofs.Runs.{keeps_quiet, keeps_after}
use Rattle.folders.proofs.temporary.create_locked.Goals as goal

pub returns-in-Ok-clause-whenever : goal.returns-in-Ok-clause-whenever
returns-in-Ok-clause-whenever g c = λ temporary is. keeps_after _ _ _ _ _
    (keeps_quiet _ _ (make c.args.path.now) true _ _ c.in-Ok.ensures.ok (λ w. is)) (c.held.ensures.whenever temporary is)

pub returns-in-Err-clause-whenever : goal.returns-in-Err-clause-whenever
returns-in-Err-clause-whenever g c = λ temporary is. keeps_quiet _ _ (make c.args.path.now) false _ _ c.in-Err.ensures.err (λ w. is)

pub returns-in-Err-2-clause-whenever : goal.returns-in-Err-2-clause-whenever
returns-in-Err-2-clause-whenever g c = λ temporary is. keeps_quiet _ _ (make c.args.path.now) false _ _ c.in-Err-2.ensures.err (λ w. is)
