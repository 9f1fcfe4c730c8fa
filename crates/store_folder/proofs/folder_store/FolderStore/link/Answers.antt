use Rattle.std.proofs.Common.{List, subst, sym, ◌⊎◌, IfSome, IfOk, MatchResult}
use Rattle.folders.specs.Calls.{Answered}
use Rattle.folders.specs.Placed.{HasPath, WasRefused}
use Rattle.store_folder.specs.Done.{HaveFoldersOf, IsDue}
use Rattle.store_folder.specs.Kept.{GivesOne}
use Rattle.store_folder.proofs.Done.{if_ok, linked}
use Rattle.store_folder.proofs.Kept.{given_then}
use Rattle.store_folder.proofs.folder_store.FolderStore.link.Goals as goal

pub returns-in-Ok-clause-whenever : goal.returns-in-Ok-clause-whenever
returns-in-Ok-clause-whenever g c = given_then _ _ _ _ _
    (subst (λ (calls : List Answered). GivesOne c.args.path.now (g.F.New.NewFile.written c.args.new.file)
    (g.F.Folder.calls c.args.self.now.files) calls)
    (sym c.outcome-placed.ensures.calls) c.try_path-made_at.ensures.whenever)
    c.remove.ensures.whenever

pub returns-in-Ok-clause-touched : goal.returns-in-Ok-clause-touched
returns-in-Ok-clause-touched g c = subst (λ t. HaveFoldersOf c.args.self.now.touched.folders.items t.folders.items)
    (sym c.remove.ensures.touched) c.outcome-placed.ensures.touched

pub returns-in-Ok-clause-due : goal.returns-in-Ok-clause-due
returns-in-Ok-clause-due g c =
    let path = c.args.path.now in
    let written = g.F.New.NewFile.written c.args.new.file in
    let tried = g.F.Folder.calls c.try_path-made_at.new.files in
    let calls = g.F.Folder.calls c.remove.new.self.files in
    let given = subst (λ r. IfOk r (λ placed. MatchResult placed.answer (λ _. HasPath path written tried) (λ _. WasRefused path tried)))
    c.in-Ok.is c.try_path-made_at.ensures.given in
    if_ok c.outcome-placed.result _ _ c.outcome-placed.ensures.noted (λ placed noted is lasting.
    subst (λ t. WasRefused path calls ⊎ IfSome written (IsDue t.folders.items calls path)) (sym c.remove.ensures.touched)
    (linked path written c.in-Ok.field-0.answer _ _ _ _ given c.outcome-placed.ensures.calls (noted is) c.remove.ensures.whenever lasting))

pub returns-in-Err-clause-whenever : goal.returns-in-Err-clause-whenever
returns-in-Err-clause-whenever g c = given_then _ _ _ _ _ c.try_path-made_at.ensures.whenever c.remove-in-Err.ensures.whenever
