use Rattle.std.proofs.Common.{◌∙◌, ap}
use Rattle.store_folder.specs.Temporary.{is_temporary}
use Rattle.store_folder.proofs.Replaced.{replaces_then}
use Rattle.store_folder.proofs.exchanging.exchange_at.Goals as goal

pub returns-in_err-remove_temporary-in-Ok-2-clause-whenever :
    goal.returns-in_err-remove_temporary-in-Ok-2-clause-whenever
returns-in_err-remove_temporary-in-Ok-2-clause-whenever g c = replaces_then c.args.path.now c.args.second.now _ _ _ _
    c.requires.path c.requires.second.0 c.requires.second.1 c.try_exchange-made_at.ensures.whenever
    (c.remove_temporary.ensures.whenever is_temporary (ap is_temporary c.as_str.ensures.value ∙ c.try_exchange-made_at.result.temporary))

pub returns-in-Ok-2-clause-whenever : goal.returns-in-Ok-2-clause-whenever
returns-in-Ok-2-clause-whenever g c = replaces_then c.args.path.now c.args.second.now _ _ _ _
    c.requires.path c.requires.second.0 c.requires.second.1 c.try_exchange-made_at.ensures.whenever
    (c.remove_temporary.ensures.whenever is_temporary (ap is_temporary c.as_str.ensures.value ∙ c.try_exchange-made_at.result.temporary))

pub returns-in_err-remove_temporary-in-Err-clause-whenever :
    goal.returns-in_err-remove_temporary-in-Err-clause-whenever
returns-in_err-remove_temporary-in-Err-clause-whenever g c = replaces_then c.args.path.now c.args.second.now _ _ _ _
    c.requires.path c.requires.second.0 c.requires.second.1 c.try_exchange-made_at.ensures.whenever
    (c.remove_temporary-in-Err.ensures.whenever is_temporary
    (ap is_temporary c.as_str-in-Err.ensures.value ∙ c.try_exchange-made_at.result.temporary))

pub returns-clause-whenever : goal.returns-clause-whenever
returns-clause-whenever g c = replaces_then c.args.path.now c.args.second.now _ _ _ _
    c.requires.path c.requires.second.0 c.requires.second.1 c.try_exchange-made_at.ensures.whenever
    (c.remove_temporary-in-Err.ensures.whenever is_temporary
    (ap is_temporary c.as_str-in-Err.ensures.value ∙ c.try_exchange-made_at.result.temporary))
