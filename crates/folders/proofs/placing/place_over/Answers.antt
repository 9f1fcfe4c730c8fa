use Rattle.std.proofs.Common.{◌≡◌, ◌∙◌, ap, ℕ, List, ◌∷◌, true}
use Rattle.folders.specs.Calls.{rename}
use Rattle.folders.specs.Placed.{HasPath}
use Rattle.folders.proofs.Answers.{answered, on_ok}
use Rattle.folders.proofs.NewFiles.{gives_over, gives_unwritten, over_whole}
use Rattle.folders.proofs.placing.place_over.Goals as goal

pub returns-in_err-whole-clause-whenever : goal.returns-in_err-whole-clause-whenever
returns-in_err-whole-clause-whenever g c = λ temporary on. gives_unwritten (λ p. temporary p ≡ true) (g.F.New.NewFile.number c.args.file)
    (g.F.New.NewFile.written c.args.file) (g.F.New.NewFile.path c.args.file) c.args.to.now on _ _ c.in_err-whole.ensures.err

pub returns-clause-whenever : goal.returns-clause-whenever
returns-clause-whenever g c = λ temporary on.
    let last = answered c.rename.result
    (rename (g.F.Whole.WholeFile.number c.in_ok-whole.whole) (g.F.Whole.WholeFile.path c.in_ok-whole.whole) c.args.to.now)
    (g.F.Folder.calls c.sync.new.self) (g.F.Folder.calls c.rename.new.self) c.rename.ensures.ok c.rename.ensures.err in
    gives_over (λ p. temporary p ≡ true) (g.F.New.NewFile.number c.args.file) (g.F.New.NewFile.written c.args.file)
    (g.F.New.NewFile.path c.args.file) c.args.to.now on c.requires last.0 (g.F.Folder.calls c.args.folder.now)
    (g.F.Folder.calls c.sync.new.self) _ c.in_ok-whole.ensures.ok
    (last.1 ∙ ap (λ (n : ℕ). (rename n (g.F.Whole.WholeFile.path c.in_ok-whole.whole) c.args.to.now, last.0)
    ∷ g.F.Folder.calls c.sync.new.self) c.in_ok-whole.ensures.number
    ∙ ap (λ (from : List ℕ). (rename (g.F.New.NewFile.number c.args.file) from c.args.to.now, last.0)
    ∷ g.F.Folder.calls c.sync.new.self) c.in_ok-whole.ensures.path)

pub returns-clause-given : goal.returns-clause-given
returns-clause-given g c = on_ok c.rename.result
    (g.F.Folder.calls c.rename.new.self ≡ (
      rename (g.F.Whole.WholeFile.number c.in_ok-whole.whole)
          (g.F.Whole.WholeFile.path c.in_ok-whole.whole) c.args.to.now,
      true,
    ) ∷ g.F.Folder.calls c.sync.new.self)
    (HasPath c.args.to.now (g.F.New.NewFile.written c.args.file) (g.F.Folder.calls c.rename.new.self))
    (λ is. over_whole (g.F.New.NewFile.number c.args.file) (g.F.New.NewFile.written c.args.file) (g.F.New.NewFile.path c.args.file)
    c.args.to.now (g.F.Folder.calls c.args.folder.now) (g.F.Folder.calls c.sync.new.self) _ c.in_ok-whole.ensures.ok
    (is ∙ ap (λ (n : ℕ). (rename n (g.F.Whole.WholeFile.path c.in_ok-whole.whole) c.args.to.now, true)
    ∷ g.F.Folder.calls c.sync.new.self) c.in_ok-whole.ensures.number
    ∙ ap (λ (from : List ℕ). (rename (g.F.New.NewFile.number c.args.file) from c.args.to.now, true)
    ∷ g.F.Folder.calls c.sync.new.self) c.in_ok-whole.ensures.path)) c.rename.ensures.ok
