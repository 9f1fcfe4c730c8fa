use Rattle.store_folder.proofs.Kept.{then_each}
use Rattle.store_folder.proofs.folder_store.FolderStoreStore.create.Goals as goal

pub returns-clause-kept : goal.returns-clause-kept
returns-clause-kept g c = λ given from before. then_each _ given _ _ _ _ _ _ c.new_fragment.ensures.site
    c.new_fragment.ensures.whenever before
