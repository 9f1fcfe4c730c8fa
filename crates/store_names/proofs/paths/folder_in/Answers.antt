use Rattle.store_names.specs.Folders.IsFolderOf.{folder_before}
use Rattle.store_names.proofs.paths.folder_in.Goals as goal

pub returns-in-Some : goal.returns-in-Some
returns-in-Some c = folder_before c.in-Some.field-0-1.now c.in-Some.ensures
