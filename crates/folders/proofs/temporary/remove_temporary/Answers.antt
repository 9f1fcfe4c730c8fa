use Rattle.folders.specs.Calls.{remove}
use Rattle.folders.proofs.Answers.{keeps_answered}
use Rattle.folders.proofs.temporary.remove_temporary.Goals as goal

pub returns-clause-whenever : goal.returns-clause-whenever
returns-clause-whenever g c = λ temporary is.
    keeps_answered _ _ c.remove.result (remove c.args.path.now) _ _ c.remove.ensures.ok c.remove.ensures.err
    (λ w. is)
