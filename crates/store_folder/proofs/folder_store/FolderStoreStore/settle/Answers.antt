use Rattle.std.proofs.lemmas.Result.{on_ok_weaker}
use Rattle.store_folder.proofs.Done.{named_settled}
use Rattle.store_folder.proofs.Kept.{then_each}
use Rattle.store_folder.proofs.folder_store.FolderStoreStore.settle.Goals as goal

pub returns-clause-kept : goal.returns-clause-kept
returns-clause-kept g c = λ stripe given from before. then_each stripe given _ _ _ _ _ _ c.sync_names.ensures.site
    c.sync_names.ensures.whenever before

pub returns-clause-done : goal.returns-clause-done
returns-clause-done g c = on_ok_weaker c.sync_names.result (λ done. named_settled _ _ c.sync_names.ensures.site _ _ _
    c.sync_names.ensures.whenever done) c.sync_names.ensures.done
