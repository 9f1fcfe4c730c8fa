use Rattle.std.proofs.Common.{subst, sym}
use Rattle.std.proofs.lemmas.Result.{IfOk-weaker}
use Rattle.store_folder.specs.Done.{IsNamed}
use Rattle.store_folder.proofs.Done.{named_over}
use Rattle.store_folder.proofs.Kept.{then_gives}
use Rattle.store_folder.proofs.folder_store.FolderStoreStore.place.Goals as goal

pub returns-clause-kept : goal.returns-clause-kept
returns-clause-kept g c = λ given from is before. then_gives _ given _ _ _ _ _ _ _ _ c.place_fragment.ensures.site is
    c.place_fragment.ensures.whenever before

pub returns-clause-others : goal.returns-clause-others
returns-clause-others g c = named_over _ _ c.place_fragment.ensures.site _ _ _ _ _ c.place_fragment.ensures.touched
    c.place_fragment.ensures.whenever

pub returns-clause-named : goal.returns-clause-named
returns-clause-named g c =
    let new = c.place_fragment.new.self in
    IfOk-weaker c.place_fragment.result _ _ (λ placed named is. subst (λ site. IsNamed site c.args.stripe.now c.args.place
    (g.F.New.NewFile.written c.args.file.unfinished.file) new.touched.folders.items (g.F.Folder.calls new.files))
    (sym c.place_fragment.ensures.site) (named is)) c.place_fragment.ensures.named
