use Rattle.std.proofs.Common.{arith, rules, ◌∙◌, ◌++◌, List, append_assoc, true≢false, sym, ap}
use Rattle.farm_threads.specs.declared.given.Feeder.{Feeder}
use Rattle.farm_threads.proofs.feeder.start_feeders.Goals as goal

pub loop-feeder-preserved : goal.loop-feeder-preserved
loop-feeder-preserved g c =
    let was = c.loop-feeder.invariant in let steps = c.in-Some.ensures.steps in (
      rw append_assoc (was.0 ∙ ap (λ (t : List Feeder). c.loop-feeder.yielded ++ t) steps.0),
      search rules,
      omega (arith, was.2, steps.1),
      was.3,
      was.4,
    )

pub loop-feeder-preserved-in-None-start_feeder : goal.loop-feeder-preserved-in-None-start_feeder
loop-feeder-preserved-in-None-start_feeder g c =
    let was = c.loop-feeder.invariant in let steps = c.in-Some.ensures.steps in (
      rw append_assoc (was.0 ∙ ap (λ (t : List Feeder). c.loop-feeder.yielded ++ t) steps.0),
      λ all. absurd (true≢false (sym all)),
      omega (arith, was.2, steps.1),
      was.3,
      was.4,
    )
