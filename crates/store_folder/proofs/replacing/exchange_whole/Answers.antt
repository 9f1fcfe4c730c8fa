use Rattle.std.proofs.Common.{◌∙◌, ap, inr, subst, sym, List, ℕ, IfOk, IsSome}
use Rattle.folders.specs.Exchanged.{Exchanges}
use Rattle.store_folder.specs.Kept.{IsTemporary}
use Rattle.store_folder.specs.Temporary.{is_temporary}
use Rattle.store_folder.proofs.Replaced.{apart, replaces_nothing, touched}
use Rattle.store_folder.proofs.replacing.exchange_whole.Goals as goal

pub returns-in-Ok-clause-whenever : goal.returns-in-Ok-clause-whenever
returns-in-Ok-clause-whenever g c =
    let path = c.args.path.now in
    inr (record {
      some = subst (λ r. IfOk r (λ _. IsSome (g.F.New.NewFile.written c.args.file))) c.in-Ok.is c.requires.whole;
      lasting = ap is_temporary (sym c.requires.second.0) ∙ c.requires.second.1;
      exchanges = subst (λ (second : List ℕ). Exchanges IsTemporary (g.F.New.NewFile.written c.args.file) path second
          (g.F.Folder.calls c.args.files.now) (g.F.Folder.calls c.exchange.new.folder)) c.requires.second.0
          (c.exchange.ensures.whenever is_temporary c.requires.path c.requires.second.1 c.requires.temporary
          (λ same. apart path (same ∙ c.requires.second.0)));
      others = λ p other. c.exchange.ensures.others p (λ is. other (touched path c.args.second.now (g.F.New.NewFile.path c.args.file)
          c.requires.second.0 c.requires.temporary p is));
    })

pub returns-in-Err-clause-whenever : goal.returns-in-Err-clause-whenever
returns-in-Err-clause-whenever g c = replaces_nothing _ _ _
