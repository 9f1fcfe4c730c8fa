use Rattle.std.proofs.Common.{◌∙◌, ap, Bool, ◌∷◌, false}
use Rattle.folders.specs.Calls.{absent}
use Rattle.folders.proofs.NewFiles.{absent_now}
use Rattle.folders.proofs.Runs.{keeps_quiet}
use Rattle.store_folder.specs.Kept.{IsTemporary}
use Rattle.store_encoding.proofs.encoding.replacing.is_lost.Goals as goal

pub returns-in-Ok-clause-kept : goal.returns-in-Ok-clause-kept
returns-in-Ok-clause-kept g c = keeps_quiet IsTemporary (λ path bytes. ⊥) (absent c.args.path.now) c.in-Ok.lost _ _ c.in-Ok.ensures.ok
    (λ w. tt)

pub returns-in-Ok-clause-lost : goal.returns-in-Ok-clause-lost
returns-in-Ok-clause-lost g c = λ is. absent_now c.args.path.now (g.F.Folder.calls c.args.files.now) _
    (c.in-Ok.ensures.ok ∙ ap (λ (b : Bool). (absent c.args.path.now, b) ∷ g.F.Folder.calls c.args.files.now) is)

pub returns-in-Err-clause-kept : goal.returns-in-Err-clause-kept
returns-in-Err-clause-kept g c = keeps_quiet IsTemporary (λ path bytes. ⊥) (absent c.args.path.now) false _ _ c.in-Err.ensures.err
    (λ w. tt)
