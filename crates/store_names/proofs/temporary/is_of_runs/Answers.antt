use Rattle.store_names.proofs.RunNames.{runs_first, runs_second}
use Rattle.store_names.proofs.temporary.is_of_runs.Goals as goal

pub returns-then-is_of_unfinished : goal.returns-then-is_of_unfinished
returns-then-is_of_unfinished c = runs_first c.args.name.now _ c.is_of_unfinished.ensures c.if-is_of_unfinished.true

pub returns-else-is_of_unfinished : goal.returns-else-is_of_unfinished
returns-else-is_of_unfinished c = runs_second c.args.name.now _ _ c.is_of_unfinished.ensures c.if-is_of_unfinished.false c.is_lock.ensures
