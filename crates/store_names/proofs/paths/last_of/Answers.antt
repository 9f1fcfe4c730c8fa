use Rattle.store_names.specs.Folders.IsLastOf.{last_after}
use Rattle.store_names.proofs.paths.last_of.Goals as goal

pub returns-in-Some : goal.returns-in-Some
returns-in-Some c = last_after c.in-Some.field-0-0.now c.in-Some.ensures
