use Rattle.std.proofs.Common.{◌∙◌, ap}
use Rattle.store_folder.specs.Temporary.{is_temporary}
use Rattle.store_folder.proofs.placing.discard_new.Goals as goal

pub returns-clause-whenever : goal.returns-clause-whenever
returns-clause-whenever g c =
    c.remove_temporary.ensures.whenever is_temporary (ap is_temporary c.as_str.ensures.value ∙ c.args.new.unfinished.temporary)
