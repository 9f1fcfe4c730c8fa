use Rattle.std.proofs.Common.{◌∙◌, ◌∷◌, ◌++◌, ap}
use Rattle.store_encoding.specs.Own.{has}
use Rattle.store_encoding.proofs.Digests.{of_one}
use Rattle.folders.specs.Given.{IsPair}
use Rattle.store_encoding.specs.Names.{path_of}
use Rattle.store_encoding.proofs.Replaced.{gives_none, kept_gives, lost_then, one_goes}
use Rattle.store_encoding.proofs.encoding.replacing.remove_lost.Goals as goal

pub returns-in_err-path-clause-whenever : goal.returns-in_err-path-clause-whenever
returns-in_err-path-clause-whenever g c = gives_none (IsPair (c.args.target.now.folder.now ++ 47 ∷ c.args.name.now)
    (path_of c.args.target.now.folder.now c.args.other.now)) _

pub returns-in_err-is_lost-clause-whenever : goal.returns-in_err-is_lost-clause-whenever
returns-in_err-is_lost-clause-whenever g c = kept_gives (IsPair (c.args.target.now.folder.now ++ 47 ∷ c.args.name.now)
    (path_of c.args.target.now.folder.now c.args.other.now)) _ _ c.is_lost.ensures.kept

pub returns-then-not-branch-clause-whenever : goal.returns-then-not-branch-clause-whenever
returns-then-not-branch-clause-whenever g c = kept_gives (IsPair (c.args.target.now.folder.now ++ 47 ∷ c.args.name.now)
    (path_of c.args.target.now.folder.now c.args.other.now)) _ _ c.is_lost.ensures.kept

pub returns-clause-whenever : goal.returns-clause-whenever
returns-clause-whenever g c = lost_then (c.args.target.now.folder.now ++ 47 ∷ c.args.name.now)
    (path_of c.args.target.now.folder.now c.args.other.now) c.as_str.result.now (c.as_str.ensures.value ∙ c.in_ok-path.ensures)
    c.requires (g.F.Folder.calls c.args.files.now) (g.F.Folder.calls c.is_lost.new.files) _ c.is_lost.ensures.kept
    (c.in_ok-is_lost.ensures.lost c.if-not-branch.false)
    (one_goes c.args.target.now.folder.now c.args.other.now c.from_ref.result.now c.from_ref.ensures.value _ _ c.remove_names.ensures.gone)

pub returns-clause-sums : goal.returns-clause-sums
returns-clause-sums g c = λ name off. c.remove_names.ensures.sums name
    (ap (λ names. has names name) c.from_ref.ensures.value ∙ of_one c.args.other.now name off)
