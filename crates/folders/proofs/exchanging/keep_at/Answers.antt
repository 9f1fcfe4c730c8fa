use Rattle.std.proofs.Common.{inr, ap, ◌∙◌, List, ◌∷◌}
use Rattle.folders.specs.Calls.{Answered, same_file}
use Rattle.folders.proofs.Answers.{asked_same}
use Rattle.folders.proofs.exchanging.keep_at.Goals as goal

pub returns-in-Err-clause-asked : goal.returns-in-Err-clause-asked
returns-in-Err-clause-asked g c =
    let asked = asked_same c.is_same_file.result c.args.path.now c.args.second.now (g.F.Folder.calls c.link_again.new.self)
    (g.F.Folder.calls c.is_same_file.new.self) c.is_same_file.ensures.ok c.is_same_file.ensures.err in (
      asked.0,
      inr (asked.1 ∙ ap (λ (calls : List Answered). (same_file c.args.path.now c.args.second.now, asked.0) ∷ calls)
          c.in-Err.ensures.err),
    )
