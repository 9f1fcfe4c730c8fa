use Rattle.std.proofs.Common.{◌≡◌, ◌∷◌, true, false}
use Rattle.folders.specs.Calls.{remove, sync_folder}
use Rattle.folders.specs.Given.{LeadThere}
use Rattle.folders.proofs.Answers.{answered, on_ok}
use Rattle.folders.proofs.Givings.{gives_named, gives_no_link, gives_taken, lead_there}
use Rattle.folders.proofs.giving.give_path.Goals as goal

pub returns-in_err-link_again-clause-whenever : goal.returns-in_err-link_again-clause-whenever
returns-in_err-link_again-clause-whenever g c = λ temporary off on.
    gives_no_link temporary _ _ _ off on (g.F.Folder.calls c.args.folder.now) _ c.in_err-link_again.ensures.err

pub returns-in_err-remove-clause-whenever : goal.returns-in_err-remove-clause-whenever
returns-in_err-remove-clause-whenever g c = λ temporary off on.
    gives_taken temporary _ _ _ off on (g.F.Folder.calls c.args.folder.now) (g.F.Folder.calls c.link_again.new.self)
    (g.F.Folder.calls c.rename_again.new.self) _ false false c.in_ok-link_again.ensures.ok c.in-Err.ensures.err
    c.in_err-remove.ensures.err

pub returns-in-Err-clause-whenever : goal.returns-in-Err-clause-whenever
returns-in-Err-clause-whenever g c = λ temporary off on.
    gives_taken temporary _ _ _ off on (g.F.Folder.calls c.args.folder.now) (g.F.Folder.calls c.link_again.new.self)
    (g.F.Folder.calls c.rename_again.new.self) _ false true c.in_ok-link_again.ensures.ok c.in-Err.ensures.err
    c.in_ok-remove.ensures.ok

pub returns-clause-whenever : goal.returns-clause-whenever
returns-clause-whenever g c = λ temporary off on.
    let gone = answered c.remove-2.result (remove c.args.link.now) (g.F.Folder.calls c.rename_again.new.self)
    (g.F.Folder.calls c.remove-2.new.self) c.remove-2.ensures.ok c.remove-2.ensures.err in
    let named = answered c.sync_folder.result (sync_folder c.folder_of.result.now) (g.F.Folder.calls c.remove-2.new.self)
    (g.F.Folder.calls c.sync_folder.new.self) c.sync_folder.ensures.ok c.sync_folder.ensures.err in
    gives_named temporary _ _ _ off on (g.F.Folder.calls c.args.folder.now) c.folder_of.result.now
    (g.F.Folder.calls c.link_again.new.self) (g.F.Folder.calls c.rename_again.new.self) (g.F.Folder.calls c.remove-2.new.self) _
    true gone.0 named.0 c.in_ok-link_again.ensures.ok c.in_default.ensures.ok gone.1 named.1

pub returns-clause-given : goal.returns-clause-given
returns-clause-given g c = λ not_path not_other.
    let gone = answered c.remove-2.result (remove c.args.link.now) (g.F.Folder.calls c.rename_again.new.self)
    (g.F.Folder.calls c.remove-2.new.self) c.remove-2.ensures.ok c.remove-2.ensures.err in
    on_ok c.sync_folder.result
    (g.F.Folder.calls c.sync_folder.new.self ≡ (sync_folder c.folder_of.result.now, true) ∷ g.F.Folder.calls c.remove-2.new.self)
    (LeadThere c.args.path.now c.args.other.now (g.F.Folder.calls c.sync_folder.new.self))
    (λ named. lead_there _ _ _ c.folder_of.result.now gone.0 (g.F.Folder.calls c.args.folder.now) (g.F.Folder.calls c.link_again.new.self)
    (g.F.Folder.calls c.rename_again.new.self) (g.F.Folder.calls c.remove-2.new.self) _ not_path not_other c.folder_of.ensures
    c.in_ok-link_again.ensures.ok c.in_default.ensures.ok gone.1 named) c.sync_folder.ensures.ok
