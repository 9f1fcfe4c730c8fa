use Rattle.store_folder.proofs.folder_store.FolderStore.touch.Goals as goal

pub returns-clause-touched : goal.returns-clause-touched
returns-clause-touched g c = c.note.ensures.had

pub returns-clause-noted : goal.returns-clause-noted
returns-clause-noted g c = c.note.ensures.noted
