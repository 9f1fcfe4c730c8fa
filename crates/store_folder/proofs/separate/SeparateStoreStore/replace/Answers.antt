use Rattle.std.proofs.Common.{◌≡◌, IfSome, subst, sym}
use Rattle.std.proofs.lemmas.Result.{IfOk-weaker}
use Rattle.store_folder.specs.Done.{HasFolderOf, IsNamed}
use Rattle.store_folder.proofs.Beside.{named_beside}
use Rattle.store_folder.proofs.Changed.{changed_none, changed_replaces}
use Rattle.store_folder.proofs.Done.{named_over}
use Rattle.store_folder.specs.Replaced.{ReplacesIn}
use Rattle.store_folder.proofs.separate.SeparateStoreStore.replace.Goals as goal

pub returns-in-Some-clause-changed : goal.returns-in-Some-clause-changed
returns-in-Some-clause-changed g c = λ given from fresh before.
    let meant = subst (λ o. IfSome o (λ f. g.F.New.NewFile.written f.unfinished.file ≡ c.args.file.meant.bytes)) c.in-Some.is
    c.args.file.written in
    let replaces = subst (λ w. ReplacesIn c.args.self.now.store.site c.args.stripe.now c.args.place w
    (g.F.Folder.calls c.args.self.now.store.files) (g.F.Folder.calls c.replace_fragment.new.self.files)) meant
    c.replace_fragment.ensures.whenever in
    let more = changed_replaces _ given _ _ _ _ _ _ _ _ c.replace_fragment.ensures.site before fresh replaces in record {
      after = more.0;
      are = more.1;
      changes = more.2;
    }

pub returns-in-None-clause-changed : goal.returns-in-None-clause-changed
returns-in-None-clause-changed g c = λ given from fresh before.
    let more = changed_none _ given _ _ _ _ _ _ _ _ c.given_up.ensures.site before c.given_up.ensures.whenever in record {
      after = more.0;
      are = more.1;
      changes = more.2;
    }

pub returns-in-Some-clause-beside : goal.returns-in-Some-clause-beside
returns-in-Some-clause-beside g c = λ apart. named_beside _ _ c.replace_fragment.ensures.site apart _ _ _ _
    c.replace_fragment.ensures.touched _ _ _ c.replace_fragment.ensures.whenever

pub returns-in-None-clause-beside : goal.returns-in-None-clause-beside
returns-in-None-clause-beside g c = λ apart other bytes differs. named_over _ _ c.given_up.ensures.site _ _ _ _ _
    (λ path has. subst (λ t. HasFolderOf path t.folders.items) (sym c.given_up.ensures.touched) has) c.given_up.ensures.whenever
    c.args.stripe.now other bytes

pub returns-in-Some-clause-named : goal.returns-in-Some-clause-named
returns-in-Some-clause-named g c =
    let new = c.replace_fragment.new.self in
    let folders = new.touched.folders.items in
    let calls = g.F.Folder.calls new.files in
    let stripe = c.args.stripe.now in
    let meant = subst (λ o. IfSome o (λ f. g.F.New.NewFile.written f.unfinished.file ≡ c.args.file.meant.bytes)) c.in-Some.is
    c.args.file.written in
    IfOk-weaker c.replace_fragment.result _ _ (λ placed named is. subst (λ w. IsNamed new.site stripe c.args.place w folders calls) meant
    (subst (λ site. IsNamed site stripe c.args.place (g.F.New.NewFile.written c.in-Some.file.unfinished.file) folders calls)
    (sym c.replace_fragment.ensures.site) (named is))) c.replace_fragment.ensures.named
