use Rattle.std.proofs.Common.{◌≡◌, ◌∙◌, IfSome, subst, sym}
use Rattle.std.proofs.lemmas.Result.{IfOk-weaker}
use Rattle.store_folder.specs.Done.{HasFolderOf, IsNamed}
use Rattle.store_folder.proofs.Done.{named_over}
use Rattle.store_folder.proofs.Kept.{then_each, then_gives}
use Rattle.store_folder.proofs.separate.SeparateStoreStore.place.Goals as goal

pub returns-in-Some-clause-kept : goal.returns-in-Some-clause-kept
returns-in-Some-clause-kept g c = λ given from is before.
    let meant = subst (λ o. IfSome o (λ f. g.F.New.NewFile.written f.unfinished.file ≡ c.args.file.meant.bytes)) c.in-Some.is
    c.args.file.written in
    then_gives _ given _ _ _ _ _ _ _ _ c.place_fragment.ensures.site (is ∙ sym meant) c.place_fragment.ensures.whenever before

pub returns-in-None-clause-kept : goal.returns-in-None-clause-kept
returns-in-None-clause-kept g c = λ given from is before. then_each _ given _ _ _ _ _ _ c.given_up.ensures.site
    c.given_up.ensures.whenever before

pub returns-in-Some-clause-others : goal.returns-in-Some-clause-others
returns-in-Some-clause-others g c = named_over _ _ c.place_fragment.ensures.site _ _ _ _ _ c.place_fragment.ensures.touched
    c.place_fragment.ensures.whenever

pub returns-in-Some-clause-named : goal.returns-in-Some-clause-named
returns-in-Some-clause-named g c =
    let new = c.place_fragment.new.self in
    let folders = new.touched.folders.items in
    let calls = g.F.Folder.calls new.files in
    let stripe = c.args.stripe.now in
    let meant = subst (λ o. IfSome o (λ f. g.F.New.NewFile.written f.unfinished.file ≡ c.args.file.meant.bytes)) c.in-Some.is
    c.args.file.written in
    IfOk-weaker c.place_fragment.result _ _ (λ placed named is. subst (λ w. IsNamed new.site stripe c.args.place w folders calls) meant
    (subst (λ site. IsNamed site stripe c.args.place (g.F.New.NewFile.written c.in-Some.file.unfinished.file) folders calls)
    (sym c.place_fragment.ensures.site) (named is))) c.place_fragment.ensures.named

pub returns-in-None-clause-others : goal.returns-in-None-clause-others
returns-in-None-clause-others g c = named_over _ _ c.given_up.ensures.site _ _ _ _ _
    (λ path has. subst (λ t. HasFolderOf path t.folders.items) (sym c.given_up.ensures.touched) has) c.given_up.ensures.whenever
