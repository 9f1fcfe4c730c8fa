use Rattle.std.proofs.Common.{◌≡◌, ◌∙◌, ap, ℕ, List, ◌∷◌, true, false}
use Rattle.folders.specs.Calls.{rename}
use Rattle.folders.proofs.ExchangeRuns.{ends_unwritten, ends_unkept, ends_unnamed, ends_renamed}
use Rattle.folders.proofs.Exchanges.{not_on, ends_given}
use Rattle.folders.proofs.Others.{leaves_asked, leaves_named, leaves_renamed, leaves_synced}
use Rattle.folders.proofs.exchanging.exchange.Goals as goal

pub returns-in_err-whole-clause-whenever : goal.returns-in_err-whole-clause-whenever
returns-in_err-whole-clause-whenever g c = λ temporary path second on apart.
    ends_unwritten (λ p. temporary p ≡ true) _ _ (not_on _ path) (not_on _ second) apart (g.F.New.NewFile.number c.args.file)
    (g.F.New.NewFile.written c.args.file) _ _ c.in_err-whole.ensures.err

pub returns-in_err-keep_at-clause-whenever : goal.returns-in_err-keep_at-clause-whenever
returns-in_err-keep_at-clause-whenever g c = λ temporary path second on apart.
    ends_unkept (λ p. temporary p ≡ true) _ _ (not_on _ path) (not_on _ second) apart (g.F.New.NewFile.number c.args.file)
    (g.F.New.NewFile.written c.args.file) _ (g.F.Folder.calls c.sync.new.self) _ c.in_ok-whole.ensures.ok c.in_err-keep_at.ensures.asked

pub returns-then-not-branch-clause-whenever : goal.returns-then-not-branch-clause-whenever
returns-then-not-branch-clause-whenever g c = λ temporary path second on apart.
    ends_unkept (λ p. temporary p ≡ true) _ _ (not_on _ path) (not_on _ second) apart (g.F.New.NewFile.number c.args.file)
    (g.F.New.NewFile.written c.args.file) _ (g.F.Folder.calls c.sync.new.self) _ c.in_ok-whole.ensures.ok c.in_ok-keep_at.ensures.asked

pub returns-in_err-sync_folder-clause-whenever : goal.returns-in_err-sync_folder-clause-whenever
returns-in_err-sync_folder-clause-whenever g c = λ temporary path second on apart.
    ends_unnamed (λ p. temporary p ≡ true) _ _ (not_on _ path) (not_on _ second) apart (g.F.New.NewFile.number c.args.file)
    (g.F.New.NewFile.written c.args.file) _ c.folder_of.result.now (g.F.Folder.calls c.sync.new.self)
    (g.F.Folder.calls c.keep_at.new.folder) _ c.in_ok-whole.ensures.ok c.in_ok-keep_at.ensures.asked c.in_err-sync_folder.ensures.err

pub returns-in_err-rename-clause-whenever : goal.returns-in_err-rename-clause-whenever
returns-in_err-rename-clause-whenever g c = λ temporary path second on apart.
    ends_renamed (λ p. temporary p ≡ true) _ _ (not_on _ path) (not_on _ second) apart (g.F.New.NewFile.number c.args.file)
    (g.F.New.NewFile.written c.args.file) _ c.requires (g.F.New.NewFile.path c.args.file) on c.folder_of.result.now
    c.folder_of.ensures false (g.F.Folder.calls c.sync.new.self) (g.F.Folder.calls c.keep_at.new.folder)
    (g.F.Folder.calls c.sync_folder.new.self) _ c.in_ok-whole.ensures.ok c.in_ok-keep_at.ensures.asked
    (c.in_ok-keep_at.ensures.one apart c.if-not-branch.false) c.in_ok-sync_folder.ensures.ok
    (c.in_err-rename.ensures.err
    ∙ ap (λ (n : ℕ). (rename n (g.F.Whole.WholeFile.path c.in_ok-whole.whole) c.args.path.now, false)
    ∷ g.F.Folder.calls c.sync_folder.new.self) c.in_ok-whole.ensures.number
    ∙ ap (λ (from : List ℕ). (rename (g.F.New.NewFile.number c.args.file) from c.args.path.now, false)
    ∷ g.F.Folder.calls c.sync_folder.new.self) c.in_ok-whole.ensures.path)

pub returns-clause-whenever : goal.returns-clause-whenever
returns-clause-whenever g c = λ temporary path second on apart.
    ends_renamed (λ p. temporary p ≡ true) _ _ (not_on _ path) (not_on _ second) apart (g.F.New.NewFile.number c.args.file)
    (g.F.New.NewFile.written c.args.file) _ c.requires (g.F.New.NewFile.path c.args.file) on c.folder_of.result.now
    c.folder_of.ensures true (g.F.Folder.calls c.sync.new.self) (g.F.Folder.calls c.keep_at.new.folder)
    (g.F.Folder.calls c.sync_folder.new.self) _ c.in_ok-whole.ensures.ok c.in_ok-keep_at.ensures.asked
    (c.in_ok-keep_at.ensures.one apart c.if-not-branch.false) c.in_ok-sync_folder.ensures.ok
    (c.in_ok-rename.ensures.ok
    ∙ ap (λ (n : ℕ). (rename n (g.F.Whole.WholeFile.path c.in_ok-whole.whole) c.args.path.now, true)
    ∷ g.F.Folder.calls c.sync_folder.new.self) c.in_ok-whole.ensures.number
    ∙ ap (λ (from : List ℕ). (rename (g.F.New.NewFile.number c.args.file) from c.args.path.now, true)
    ∷ g.F.Folder.calls c.sync_folder.new.self) c.in_ok-whole.ensures.path)

pub returns-clause-given : goal.returns-clause-given
returns-clause-given g c = λ done.
    ends_given c.args.path.now c.args.second.now (g.F.New.NewFile.number c.args.file) (g.F.New.NewFile.written c.args.file)
    (g.F.Folder.calls c.args.folder.now) (g.F.New.NewFile.path c.args.file) c.folder_of.result.now (g.F.Folder.calls c.sync.new.self)
    (g.F.Folder.calls c.keep_at.new.folder) (g.F.Folder.calls c.sync_folder.new.self) (g.F.Folder.calls c.rename.new.self)
    c.in_ok-whole.ensures.ok c.in_ok-keep_at.ensures.asked c.in_ok-sync_folder.ensures.ok
    (c.in_ok-rename.ensures.ok
    ∙ ap (λ (n : ℕ). (rename n (g.F.Whole.WholeFile.path c.in_ok-whole.whole) c.args.path.now, true)
    ∷ g.F.Folder.calls c.sync_folder.new.self) c.in_ok-whole.ensures.number
    ∙ ap (λ (from : List ℕ). (rename (g.F.New.NewFile.number c.args.file) from c.args.path.now, true)
    ∷ g.F.Folder.calls c.sync_folder.new.self) c.in_ok-whole.ensures.path)

pub returns-in_err-whole-clause-others : goal.returns-in_err-whole-clause-others
returns-in_err-whole-clause-others g c = leaves_synced _ _ _ _ _ _ false _ c.in_err-whole.ensures.err

pub returns-in_err-keep_at-clause-others : goal.returns-in_err-keep_at-clause-others
returns-in_err-keep_at-clause-others g c = leaves_asked _ _ _ _ _ _ _ _ c.in_ok-whole.ensures.ok c.in_err-keep_at.ensures.asked

pub returns-then-not-branch-clause-others : goal.returns-then-not-branch-clause-others
returns-then-not-branch-clause-others g c = leaves_asked _ _ _ _ _ _ _ _ c.in_ok-whole.ensures.ok c.in_ok-keep_at.ensures.asked

pub returns-in_err-sync_folder-clause-others : goal.returns-in_err-sync_folder-clause-others
returns-in_err-sync_folder-clause-others g c = leaves_named _ _ _ _ _ _ _ false _ _ _ c.in_ok-whole.ensures.ok
    c.in_ok-keep_at.ensures.asked c.in_err-sync_folder.ensures.err

pub returns-in_err-rename-clause-others : goal.returns-in_err-rename-clause-others
returns-in_err-rename-clause-others g c = leaves_renamed _ _ _ _ _ _ _ _ _ false _ _ _ _ c.in_ok-whole.ensures.ok
    c.in_ok-keep_at.ensures.asked c.in_ok-sync_folder.ensures.ok c.in_ok-whole.ensures.path c.in_err-rename.ensures.err

pub returns-clause-others : goal.returns-clause-others
returns-clause-others g c = leaves_renamed _ _ _ _ _ _ _ _ _ true _ _ _ _ c.in_ok-whole.ensures.ok c.in_ok-keep_at.ensures.asked
    c.in_ok-sync_folder.ensures.ok c.in_ok-whole.ensures.path c.in_ok-rename.ensures.ok
