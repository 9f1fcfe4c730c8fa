use Rattle.std.proofs.Common.{arith, ◌∙◌, ◌++◌, List, append_assoc, true≢false, ap}
use Rattle.farm_threads.specs.declared.given.WorkerEnds.{WorkerEnds}
use Rattle.farm_threads.proofs.worker.start_workers.Goals as goal

pub loop-end-preserved : goal.loop-end-preserved
loop-end-preserved g c =
    let was = c.loop-end.invariant in let steps = c.in-Some.ensures.steps in (
      rw append_assoc (was.0 ∙ ap (λ (t : List WorkerEnds). c.loop-end.yielded ++ t) steps.0),
      λ none. absurd (true≢false none),
      omega (arith, was.2, steps.1),
      was.3,
      was.4,
    )

pub loop-end-preserved-in-Err : goal.loop-end-preserved-in-Err
loop-end-preserved-in-Err g c =
    let was = c.loop-end.invariant in let steps = c.in-Some.ensures.steps in (
      rw append_assoc (was.0 ∙ ap (λ (t : List WorkerEnds). c.loop-end.yielded ++ t) steps.0),
      λ none. absurd (true≢false none),
      omega (arith, was.2, steps.1),
      was.3,
      was.4,
    )
