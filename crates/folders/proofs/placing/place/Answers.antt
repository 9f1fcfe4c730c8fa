use Rattle.std.proofs.Common.{◌≡◌, ◌∙◌, ap, ℕ, ◌∷◌, true, false}
use Rattle.folders.specs.Calls.{sync, link}
use Rattle.folders.proofs.Answers.{answered}
use Rattle.folders.proofs.Links.{keeps_link}
use Rattle.folders.proofs.Runs.{keeps_quiet}
use Rattle.folders.proofs.placing.place.Goals as goal

pub returns-in_err-whole-clause-whenever : goal.returns-in_err-whole-clause-whenever
returns-in_err-whole-clause-whenever g c = λ temporary. keeps_quiet _ _ (sync (g.F.New.NewFile.number c.args.file)
    (g.F.New.NewFile.written c.args.file)) false _ _
    c.in_err-whole.ensures.err (λ w. tt)

pub returns-clause-whenever : goal.returns-clause-whenever
returns-clause-whenever g c = λ temporary.
    let last = answered c.link-answer.result (link (g.F.Whole.WholeFile.number c.in_ok-whole.whole) c.args.to.now)
    (g.F.Folder.calls c.sync.new.self) (g.F.Folder.calls c.link-answer.new.self)
    c.link-answer.ensures.ok c.link-answer.ensures.err in
    keeps_link (λ path. temporary path ≡ true) (g.F.New.NewFile.number c.args.file)
    (g.F.New.NewFile.written c.args.file) c.args.to.now last.0
    (g.F.Folder.calls c.args.folder.now) (g.F.Folder.calls c.sync.new.self)
    (g.F.Folder.calls c.link-answer.new.self) c.requires c.in_ok-whole.ensures.ok
    (last.1 ∙ ap (λ (file : ℕ). (link file c.args.to.now, last.0) ∷ g.F.Folder.calls c.sync.new.self) c.in_ok-whole.ensures.number)
