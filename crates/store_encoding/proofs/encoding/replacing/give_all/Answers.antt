use Rattle.std.proofs.Common.{◌∙◌, ap, refl, ℕ, List, Bor}
use Rattle.store_encoding.specs.Digests.{KeepsBeside, KeepsDigests}
use Rattle.store_encoding.proofs.Digests.{kept_of}
use Rattle.folders.proofs.Answers.{on_ok}
use Rattle.store_encoding.specs.Names.{IsPairOf, Replaces}
use Rattle.store_encoding.specs.Replaced.{AllGot}
use Rattle.store_encoding.proofs.Replaced.{all_given, descriptions_can, descriptions_then, fragments_can, fragments_given}
use Rattle.store_encoding.proofs.Replaced.{fragments_then, same_got, same_run}
use Rattle.store_encoding.proofs.encoding.replacing.give_all.Goals as goal

pub give_names-requires : goal.give_names-requires
give_names-requires g c = fragments_can c.args.target.now.folder.now c.args.begun.now c.args.replaced.now c.requires
    c.args.target.now.folder.now
    c.as_slice.result.now c.as_slice-fragments.result.now refl c.as_slice.ensures.value c.as_slice-fragments.ensures.value

pub remove_old-requires : goal.remove_old-requires
remove_old-requires g c = fragments_can c.args.target.now.folder.now c.args.begun.now c.args.replaced.now c.requires
    c.give_names.new.target.folder.now
    c.as_slice-2.result.now c.as_slice-fragments.result.now (ap (λ (f : Bor (List ℕ)). f.now) c.give_names.ensures.folder)
    c.as_slice-2.ensures.value c.as_slice-fragments.ensures.value

pub give_names-requires-2 : goal.give_names-requires-2
give_names-requires-2 g c = descriptions_can c.args.target.now.folder.now c.args.begun.now c.args.replaced.now c.requires
    c.remove_old.new.target.folder.now
    c.as_slice-3.result.now c.as_slice-4.result.now (ap (λ (f : Bor (List ℕ)). f.now) (c.remove_old.ensures.folder ∙
    c.give_names.ensures.folder)) c.as_slice-3.ensures.value c.as_slice-4.ensures.value

pub returns-in_err-give_names-clause-whenever : goal.returns-in_err-give_names-clause-whenever
returns-in_err-give_names-clause-whenever g c = fragments_given c.args.target.now.folder.now c.args.begun.now c.args.replaced.now
    c.requires _ _
    (same_run c.args.target.now.folder.now c.args.begun.now c.args.replaced.now c.requires c.args.target.now.folder.now
    c.as_slice.result.now
    c.args.begun.now.fragments.items c.as_slice-fragments.result.now c.args.replaced.now.fragments.items refl
    c.as_slice.ensures.value c.as_slice-fragments.ensures.value _ _ c.give_names.ensures.whenever)

pub returns-in_err-remove_old-clause-whenever : goal.returns-in_err-remove_old-clause-whenever
returns-in_err-remove_old-clause-whenever g c = fragments_then c.args.target.now.folder.now c.args.begun.now c.args.replaced.now
    c.requires _ _ _
    (same_run c.args.target.now.folder.now c.args.begun.now c.args.replaced.now c.requires c.args.target.now.folder.now
    c.as_slice.result.now
    c.args.begun.now.fragments.items c.as_slice-fragments.result.now c.args.replaced.now.fragments.items refl
    c.as_slice.ensures.value c.as_slice-fragments.ensures.value _ _ c.give_names.ensures.whenever)
    (same_run c.args.target.now.folder.now c.args.begun.now c.args.replaced.now c.requires c.give_names.new.target.folder.now
    c.as_slice-2.result.now
    c.args.begun.now.fragments.items c.as_slice-fragments.result.now c.args.replaced.now.fragments.items (ap (λ (f : Bor (List ℕ)).
    f.now) c.give_names.ensures.folder)
    c.as_slice-2.ensures.value c.as_slice-fragments.ensures.value _ _ c.remove_old.ensures.whenever)

pub returns-clause-whenever : goal.returns-clause-whenever
returns-clause-whenever g c = descriptions_then c.args.target.now.folder.now c.args.begun.now c.args.replaced.now c.requires _ _ _ _
    (same_run c.args.target.now.folder.now c.args.begun.now c.args.replaced.now c.requires c.args.target.now.folder.now
    c.as_slice.result.now
    c.args.begun.now.fragments.items c.as_slice-fragments.result.now c.args.replaced.now.fragments.items refl
    c.as_slice.ensures.value c.as_slice-fragments.ensures.value _ _ c.give_names.ensures.whenever)
    (same_run c.args.target.now.folder.now c.args.begun.now c.args.replaced.now c.requires c.give_names.new.target.folder.now
    c.as_slice-2.result.now
    c.args.begun.now.fragments.items c.as_slice-fragments.result.now c.args.replaced.now.fragments.items (ap (λ (f : Bor (List ℕ)).
    f.now) c.give_names.ensures.folder)
    c.as_slice-2.ensures.value c.as_slice-fragments.ensures.value _ _ c.remove_old.ensures.whenever)
    (same_run c.args.target.now.folder.now c.args.begun.now c.args.replaced.now c.requires c.remove_old.new.target.folder.now
    c.as_slice-3.result.now
    c.args.begun.now.descriptions.items c.as_slice-4.result.now c.args.replaced.now.descriptions.items (ap (λ (f : Bor (List ℕ)).
    f.now) (c.remove_old.ensures.folder ∙ c.give_names.ensures.folder))
    c.as_slice-3.ensures.value c.as_slice-4.ensures.value _ _ c.give_names-2.ensures.whenever)

pub returns-clause-got : goal.returns-clause-got
returns-clause-got g c = on_ok c.give_names-2.result
    (AllGot (IsPairOf c.remove_old.new.target.folder.now c.as_slice-3.result.now c.as_slice-4.result.now)
    (g.F.Folder.calls c.remove_old.new.files) (g.F.Folder.calls c.give_names-2.new.files))
    (AllGot (Replaces c.args.target.now.folder.now c.args.begun.now c.args.replaced.now) (g.F.Folder.calls c.args.files.now)
    (g.F.Folder.calls c.give_names-2.new.files))
    (λ got. all_given c.args.target.now.folder.now c.args.begun.now c.args.replaced.now c.requires _ _ _ _
    (same_run c.args.target.now.folder.now c.args.begun.now c.args.replaced.now c.requires c.args.target.now.folder.now
    c.as_slice.result.now
    c.args.begun.now.fragments.items c.as_slice-fragments.result.now c.args.replaced.now.fragments.items refl
    c.as_slice.ensures.value c.as_slice-fragments.ensures.value _ _ c.give_names.ensures.whenever)
    (same_run c.args.target.now.folder.now c.args.begun.now c.args.replaced.now c.requires c.give_names.new.target.folder.now
    c.as_slice-2.result.now
    c.args.begun.now.fragments.items c.as_slice-fragments.result.now c.args.replaced.now.fragments.items (ap (λ (f : Bor (List ℕ)).
    f.now) c.give_names.ensures.folder)
    c.as_slice-2.ensures.value c.as_slice-fragments.ensures.value _ _ c.remove_old.ensures.whenever)
    (same_run c.args.target.now.folder.now c.args.begun.now c.args.replaced.now c.requires c.remove_old.new.target.folder.now
    c.as_slice-3.result.now
    c.args.begun.now.descriptions.items c.as_slice-4.result.now c.args.replaced.now.descriptions.items (ap (λ (f : Bor (List ℕ)).
    f.now) (c.remove_old.ensures.folder ∙ c.give_names.ensures.folder))
    c.as_slice-3.ensures.value c.as_slice-4.ensures.value _ _ c.give_names-2.ensures.whenever)
    (same_got c.args.target.now.folder.now c.args.begun.now c.args.replaced.now c.requires c.args.target.now.folder.now
    c.as_slice.result.now
    c.args.begun.now.fragments.items c.as_slice-fragments.result.now c.args.replaced.now.fragments.items refl
    c.as_slice.ensures.value c.as_slice-fragments.ensures.value _ _ c.in_ok-give_names.ensures.got)
    (same_got c.args.target.now.folder.now c.args.begun.now c.args.replaced.now c.requires c.remove_old.new.target.folder.now
    c.as_slice-3.result.now
    c.args.begun.now.descriptions.items c.as_slice-4.result.now c.args.replaced.now.descriptions.items (ap (λ (f : Bor (List ℕ)).
    f.now) (c.remove_old.ensures.folder ∙ c.give_names.ensures.folder))
    c.as_slice-3.ensures.value c.as_slice-4.ensures.value _ _ got)) c.give_names-2.ensures.got

pub returns-clause-sums : goal.returns-clause-sums
returns-clause-sums g c =
    let fragments = c.args.replaced.now.fragments.items in
    let descriptions = c.args.replaced.now.descriptions.items in
    on_ok c.give_names-2.result (KeepsDigests c.as_slice-4.result.now c.remove_old.new.target.sums c.give_names-2.new.target.sums)
    (KeepsBeside c.args.replaced.now c.args.target.now.sums c.give_names-2.new.target.sums)
    (λ last name out out_too. kept_of descriptions c.as_slice-4.result.now c.as_slice-4.ensures.value c.remove_old.new.target.sums
    c.give_names-2.new.target.sums last name out_too
    ∙ kept_of fragments c.as_slice-fragments.result.now c.as_slice-fragments.ensures.value c.give_names.new.target.sums
    c.remove_old.new.target.sums c.remove_old.ensures.sums name out
    ∙ kept_of fragments c.as_slice-fragments.result.now c.as_slice-fragments.ensures.value c.args.target.now.sums
    c.give_names.new.target.sums c.in_ok-give_names.ensures.sums name out)
    c.give_names-2.ensures.sums
