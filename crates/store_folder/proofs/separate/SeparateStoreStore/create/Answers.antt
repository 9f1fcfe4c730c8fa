use Rattle.store_folder.proofs.Kept.{then_each}
use Rattle.store_folder.proofs.separate.SeparateStoreStore.create.Goals as goal

pub returns-in-Ok-clause-kept : goal.returns-in-Ok-clause-kept
returns-in-Ok-clause-kept g c = λ given from before. then_each _ given _ _ _ _ _ _ c.new_fragment.ensures.site
    c.new_fragment.ensures.whenever before

pub returns-in-Err-clause-kept : goal.returns-in-Err-clause-kept
returns-in-Err-clause-kept g c = λ given from before. then_each _ given _ _ _ _ _ _ c.new_fragment.ensures.site
    c.new_fragment.ensures.whenever before
