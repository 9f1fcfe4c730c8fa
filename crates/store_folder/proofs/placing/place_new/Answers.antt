use Rattle.std.proofs.Common.{◌∙◌, ap}
use Rattle.store_folder.specs.Temporary.{is_temporary}
use Rattle.store_folder.proofs.Done.{outcome_at}
use Rattle.store_folder.proofs.Kept.{given_then}
use Rattle.store_folder.proofs.placing.place_new.Goals as goal

pub returns-in-Ok-clause-whenever : goal.returns-in-Ok-clause-whenever
returns-in-Ok-clause-whenever g c = given_then _ _ _ _ _ c.try_path-made_at.ensures.whenever
    (c.remove_temporary.ensures.whenever is_temporary (ap is_temporary c.as_str.ensures.value ∙ c.try_path-made_at.result.temporary))

pub returns-in-Ok-clause-placed : goal.returns-in-Ok-clause-placed
returns-in-Ok-clause-placed g c = λ lasting. outcome_at (λ placed. placed.answer) _ _ _ _ _ _
    c.try_path-made_at.ensures.some c.try_path-made_at.ensures.given c.outcome_of.ensures
    (c.remove_temporary.ensures.whenever is_temporary (ap is_temporary c.as_str.ensures.value ∙ c.try_path-made_at.result.temporary))
    lasting

pub returns-clause-whenever : goal.returns-clause-whenever
returns-clause-whenever g c = given_then _ _ _ _ _ c.try_path-made_at.ensures.whenever
    (c.remove_temporary.ensures.whenever is_temporary (ap is_temporary c.as_str.ensures.value ∙ c.try_path-made_at.result.temporary))
