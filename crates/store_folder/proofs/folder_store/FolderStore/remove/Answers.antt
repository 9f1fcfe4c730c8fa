use Rattle.std.proofs.Common.{◌∙◌, ap}
use Rattle.store_folder.specs.Temporary.{is_temporary}
use Rattle.store_folder.proofs.folder_store.FolderStore.remove.Goals as goal

pub returns-in-Err-clause-whenever : goal.returns-in-Err-clause-whenever
returns-in-Err-clause-whenever g c = c.remove_temporary.ensures.whenever is_temporary (ap is_temporary c.as_str.ensures.value ∙ c.requires)

pub returns-in_default-clause-whenever : goal.returns-in_default-clause-whenever
returns-in_default-clause-whenever g c =
    c.remove_temporary.ensures.whenever is_temporary (ap is_temporary c.as_str.ensures.value ∙ c.requires)
