use Rattle.std.proofs.Common.{subst, sym}
use Rattle.std.proofs.lemmas.Result.{IfOk-weaker}
use Rattle.store_folder.specs.Done.{IsNamed}
use Rattle.store_folder.proofs.Beside.{named_beside}
use Rattle.store_folder.proofs.Changed.{changed_replaces}
use Rattle.store_folder.proofs.folder_store.FolderStoreStore.replace.Goals as goal

pub returns-clause-changed : goal.returns-clause-changed
returns-clause-changed g c = λ given from fresh before.
    let more = changed_replaces _ given _ _ _ _ _ _ _ _ c.replace_fragment.ensures.site before fresh
    c.replace_fragment.ensures.whenever in record {
      after = more.0;
      are = more.1;
      changes = more.2;
    }

pub returns-clause-beside : goal.returns-clause-beside
returns-clause-beside g c = λ apart. named_beside _ _ c.replace_fragment.ensures.site apart _ _ _ _ c.replace_fragment.ensures.touched
    _ _ _ c.replace_fragment.ensures.whenever

pub returns-clause-named : goal.returns-clause-named
returns-clause-named g c =
    let new = c.replace_fragment.new.self in
    IfOk-weaker c.replace_fragment.result _ _ (λ placed named is. subst (λ site. IsNamed site c.args.stripe.now c.args.place
    (g.F.New.NewFile.written c.args.file.unfinished.file) new.touched.folders.items (g.F.Folder.calls new.files))
    (sym c.replace_fragment.ensures.site) (named is)) c.replace_fragment.ensures.named
