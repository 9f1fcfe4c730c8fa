use Rattle.std.proofs.Common.{◌∙◌, ◌∷◌, ◌++◌, inl, subst, ℕ, List}
use Rattle.folders.specs.Given.{IsAbsent, IsPair}
use Rattle.store_encoding.proofs.Replaced.{gives_none, kept_gives, lead_given, name_given}
use Rattle.store_encoding.proofs.encoding.replacing.give_one.Goals as goal

pub returns-in_err-path-clause-whenever : goal.returns-in_err-path-clause-whenever
returns-in_err-path-clause-whenever g c = gives_none (IsPair (c.args.target.now.folder.now ++ 47 ∷ c.args.name.now)
    (c.args.target.now.folder.now ++ 47 ∷ c.args.other.now)) _

pub returns-in_err-to-clause-whenever : goal.returns-in_err-to-clause-whenever
returns-in_err-to-clause-whenever g c = gives_none (IsPair (c.args.target.now.folder.now ++ 47 ∷ c.args.name.now)
    (c.args.target.now.folder.now ++ 47 ∷ c.args.other.now)) _

pub returns-in_err-is_lost-clause-whenever : goal.returns-in_err-is_lost-clause-whenever
returns-in_err-is_lost-clause-whenever g c = kept_gives (IsPair (c.args.target.now.folder.now ++ 47 ∷ c.args.name.now)
    (c.args.target.now.folder.now ++ 47 ∷ c.args.other.now)) _ _ c.is_lost.ensures.kept

pub returns-then-branch-clause-whenever : goal.returns-then-branch-clause-whenever
returns-then-branch-clause-whenever g c = kept_gives (IsPair (c.args.target.now.folder.now ++ 47 ∷ c.args.name.now)
    (c.args.target.now.folder.now ++ 47 ∷ c.args.other.now)) _ _ c.is_lost.ensures.kept

pub returns-then-branch-clause-given : goal.returns-then-branch-clause-given
returns-then-branch-clause-given g c = inl (subst (λ (p : List ℕ). IsAbsent p (g.F.Folder.calls c.is_lost.new.files))
    (c.as_str.ensures.value ∙ c.in_ok-path.ensures) (c.in_ok-is_lost.ensures.lost c.if-branch.true))

pub returns-in_err-note_digest-in-Ok-clause-whenever : goal.returns-in_err-note_digest-in-Ok-clause-whenever
returns-in_err-note_digest-in-Ok-clause-whenever g c =
    let folder = c.args.target.now.folder.now in
    name_given (folder ++ 47 ∷ c.args.name.now) (folder ++ 47 ∷ c.args.other.now) c.as_str-2.result.now c.as_str-3.result.now
    (c.as_str-2.ensures.value ∙ c.in_ok-path.ensures) (c.as_str-3.ensures.value ∙ c.in_ok-to.ensures) c.requires
    (g.F.Folder.calls c.args.files.now) (g.F.Folder.calls c.is_lost.new.files) _ c.is_lost.ensures.kept c.give_name.ensures.whenever

pub returns-clause-whenever : goal.returns-clause-whenever
returns-clause-whenever g c =
    let folder = c.args.target.now.folder.now in
    name_given (folder ++ 47 ∷ c.args.name.now) (folder ++ 47 ∷ c.args.other.now) c.as_str-2.result.now c.as_str-3.result.now
    (c.as_str-2.ensures.value ∙ c.in_ok-path.ensures) (c.as_str-3.ensures.value ∙ c.in_ok-to.ensures) c.requires
    (g.F.Folder.calls c.args.files.now) (g.F.Folder.calls c.is_lost.new.files) _ c.is_lost.ensures.kept c.give_name.ensures.whenever

pub returns-in-Ok-clause-whenever : goal.returns-in-Ok-clause-whenever
returns-in-Ok-clause-whenever g c =
    let folder = c.args.target.now.folder.now in
    name_given (folder ++ 47 ∷ c.args.name.now) (folder ++ 47 ∷ c.args.other.now) c.as_str-2.result.now c.as_str-3.result.now
    (c.as_str-2.ensures.value ∙ c.in_ok-path.ensures) (c.as_str-3.ensures.value ∙ c.in_ok-to.ensures) c.requires
    (g.F.Folder.calls c.args.files.now) (g.F.Folder.calls c.is_lost.new.files) _ c.is_lost.ensures.kept c.give_name.ensures.whenever

pub returns-in-Ok-clause-given : goal.returns-in-Ok-clause-given
returns-in-Ok-clause-given g c =
    let folder = c.args.target.now.folder.now in
    lead_given (folder ++ 47 ∷ c.args.name.now) (folder ++ 47 ∷ c.args.other.now) c.as_str-2.result.now c.as_str-3.result.now
    (c.as_str-2.ensures.value ∙ c.in_ok-path.ensures) (c.as_str-3.ensures.value ∙ c.in_ok-to.ensures) c.requires _ c.in-Ok.ensures.given
