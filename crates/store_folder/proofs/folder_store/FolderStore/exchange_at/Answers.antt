use Rattle.std.proofs.Common.{◌≡◌, true, IfOk, List, subst, sym}
use Rattle.folders.specs.Calls.{Answered}
use Rattle.folders.specs.Placed.{HasPath}
use Rattle.store_folder.proofs.Replaced.{given_due, replaces_then}
use Rattle.store_folder.proofs.folder_store.FolderStore.exchange_at.Goals as goal

pub returns-in_ok-touch-in-Ok-clause-due : goal.returns-in_ok-touch-in-Ok-clause-due
returns-in_ok-touch-in-Ok-clause-due g c = λ placed.
    let path = c.args.path.now in
    let written = g.F.New.NewFile.written c.args.new.file in
    let tried = g.F.Folder.calls c.try_exchange-made_at.new.files in
    let given = subst (λ r. IfOk r (λ exchanged. exchanged.is_done ≡ true → HasPath path written tried)) c.in-Ok.is
    c.try_exchange-made_at.ensures.given in
    given_due path written _ _ (subst (λ (calls : List Answered). HasPath path written calls) (sym c.in_ok-touch-in-Ok.ensures.calls)
    (given c.if-exchanged.true)) (c.in_ok-touch-in-Ok.ensures.noted path c.folder_of.ensures)

pub returns-in-Ok-2-clause-whenever : goal.returns-in-Ok-2-clause-whenever
returns-in-Ok-2-clause-whenever g c = replaces_then c.args.path.now c.args.second.now _ _ _ _ c.requires.path c.requires.second.0
    c.requires.second.1 c.try_exchange-made_at.ensures.whenever c.remove.ensures.whenever

pub returns-in-Err-clause-whenever : goal.returns-in-Err-clause-whenever
returns-in-Err-clause-whenever g c = replaces_then c.args.path.now c.args.second.now _ _ _ _ c.requires.path c.requires.second.0
    c.requires.second.1 c.try_exchange-made_at.ensures.whenever c.remove-in-Err.ensures.whenever
