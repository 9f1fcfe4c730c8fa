use Rattle.std.proofs.Common.{subst, sym}
use Rattle.store_folder.specs.Done.{HasFolderOf}
use Rattle.store_folder.proofs.Done.{named_over}
use Rattle.store_folder.proofs.Kept.{then_each}
use Rattle.store_folder.proofs.separate.SeparateStoreStore.discard.Goals as goal

pub returns-in-Some-clause-kept : goal.returns-in-Some-clause-kept
returns-in-Some-clause-kept g c = λ stripe given from before. then_each stripe given _ _ _ _ _ _ c.discard_fragment.ensures.site
    c.discard_fragment.ensures.whenever before

pub returns-in-None-clause-kept : goal.returns-in-None-clause-kept
returns-in-None-clause-kept g c = λ stripe given from before. then_each stripe given _ _ _ _ _ _ c.given_up.ensures.site
    c.given_up.ensures.whenever before

pub returns-in-Some-clause-others : goal.returns-in-Some-clause-others
returns-in-Some-clause-others g c = named_over _ _ c.discard_fragment.ensures.site _ _ _ _ _
    (λ path has. subst (λ t. HasFolderOf path t.folders.items) (sym c.discard_fragment.ensures.touched) has)
    c.discard_fragment.ensures.whenever

pub returns-in-None-clause-others : goal.returns-in-None-clause-others
returns-in-None-clause-others g c = named_over _ _ c.given_up.ensures.site _ _ _ _ _
    (λ path has. subst (λ t. HasFolderOf path t.folders.items) (sym c.given_up.ensures.touched) has) c.given_up.ensures.whenever
