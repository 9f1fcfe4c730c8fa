use Rattle.store_folder.proofs.folder_store.FolderStore.outcome.Goals as goal

pub returns-in_err-touch-clause-touched : goal.returns-in_err-touch-clause-touched
returns-in_err-touch-clause-touched g c = c.touch.ensures.touched

pub returns-clause-touched : goal.returns-clause-touched
returns-clause-touched g c = c.touch.ensures.touched

pub returns-clause-noted : goal.returns-clause-noted
returns-clause-noted g c = λ _. c.in_ok-touch.ensures.noted c.args.path.now c.folder_of.ensures
