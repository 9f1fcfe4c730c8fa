use Rattle.std.proofs.Common.{true, false, None}
use Rattle.folders.specs.Calls.{remove, sync_folder}
use Rattle.folders.proofs.Answers.{answered, keeps_answered}
use Rattle.folders.proofs.Runs.{keeps_quiet, keeps_after}
use Rattle.folders.specs.Given.{IsNewAt}
use Rattle.folders.proofs.NewFiles.{gives_removed}
use Rattle.store_folder.specs.Kept.{IsTemporary}
use Rattle.store_folder.proofs.Written.{puts_after, puts_quiet}
use Rattle.store_encoding.proofs.Taken.{rest_after, rest_removed, rest_synced}
use Rattle.store_encoding.proofs.taking.take_away.Goals as goal

pub returns-in_err-remove-clause-whenever : goal.returns-in_err-remove-clause-whenever
returns-in_err-remove-clause-whenever g c = λ temporary is. keeps_quiet _ _ (remove c.args.path.now) false _ _
    c.in_err-remove.ensures.err (λ w. is)

pub returns-clause-whenever : goal.returns-clause-whenever
returns-clause-whenever g c = λ temporary is. keeps_after _ _ _ _ _
    (keeps_quiet _ _ (remove c.args.path.now) true _ _ c.in_ok-remove.ensures.ok (λ w. is))
    (keeps_answered _ _ c.sync_folder.result (sync_folder c.folder_of.result.now) _ _ c.sync_folder.ensures.ok
    c.sync_folder.ensures.err (λ w. tt))

pub returns-in_err-remove-clause-rest : goal.returns-in_err-remove-clause-rest
returns-in_err-remove-clause-rest g c = rest_removed c.args.path.now false _ _ c.in_err-remove.ensures.err

pub returns-clause-rest : goal.returns-clause-rest
returns-clause-rest g c =
    let last = answered c.sync_folder.result (sync_folder c.folder_of.result.now) (g.F.Folder.calls c.remove.new.self)
    (g.F.Folder.calls c.sync_folder.new.self) c.sync_folder.ensures.ok c.sync_folder.ensures.err in
    rest_after _ _ _ (rest_removed c.args.path.now true _ _ c.in_ok-remove.ensures.ok)
    (rest_synced c.folder_of.result.now last.0 _ _ last.1)

pub returns-in_err-remove-clause-one : goal.returns-in_err-remove-clause-one
returns-in_err-remove-clause-one g c = gives_removed IsTemporary c.args.path.now false _ _ c.in_err-remove.ensures.err

pub returns-clause-one : goal.returns-clause-one
returns-clause-one g c = puts_after (IsNewAt c.args.path.now None) _ _ _
    (gives_removed IsTemporary c.args.path.now true _ _ c.in_ok-remove.ensures.ok)
    (puts_quiet (IsNewAt c.args.path.now None) c.sync_folder.result (sync_folder c.folder_of.result.now) _ _ c.sync_folder.ensures.ok
    c.sync_folder.ensures.err (λ w. tt))
