use Rattle.store_folder.proofs.folder_store.FolderStore.sync_names.Goals as goal

pub returns-in-None-clause-done : goal.returns-in-None-clause-done
returns-in-None-clause-done g c = c.in_ok-sync.ensures.done
