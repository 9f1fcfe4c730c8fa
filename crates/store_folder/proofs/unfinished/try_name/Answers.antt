use Rattle.std.proofs.Common.{◌∙◌, ap}
use Rattle.store_folder.specs.Temporary.{is_temporary}
use Rattle.store_folder.proofs.unfinished.try_name.Goals as goal

pub returns-in_err-file-clause-whenever : goal.returns-in_err-file-clause-whenever
returns-in_err-file-clause-whenever g c = c.create_locked.ensures.whenever is_temporary (ap is_temporary c.as_str.ensures.value
    ∙ c.in_ok-made_at.ensures)

pub returns-clause-whenever : goal.returns-clause-whenever
returns-clause-whenever g c = c.create_locked.ensures.whenever is_temporary (ap is_temporary c.as_str.ensures.value
    ∙ c.in_ok-made_at.ensures)
