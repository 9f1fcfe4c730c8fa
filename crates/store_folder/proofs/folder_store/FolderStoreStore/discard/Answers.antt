use Rattle.std.proofs.Common.{subst, sym}
use Rattle.store_folder.specs.Done.{HasFolderOf}
use Rattle.store_folder.proofs.Done.{named_over}
use Rattle.store_folder.proofs.Kept.{then_each}
use Rattle.store_folder.proofs.folder_store.FolderStoreStore.discard.Goals as goal

pub returns-clause-kept : goal.returns-clause-kept
returns-clause-kept g c = λ stripe given from before. then_each stripe given _ _ _ _ _ _ c.discard_fragment.ensures.site
    c.discard_fragment.ensures.whenever before

pub returns-clause-others : goal.returns-clause-others
returns-clause-others g c = named_over _ _ c.discard_fragment.ensures.site _ _ _ _ _
    (λ path has. subst (λ t. HasFolderOf path t.folders.items) (sym c.discard_fragment.ensures.touched) has)
    c.discard_fragment.ensures.whenever
