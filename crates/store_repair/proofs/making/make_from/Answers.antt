use Rattle.std.specs.Prelude.{◌⊎◌, Contains}
use Rattle.std.proofs.Common.{◌≡◌, All, IfSome, List, ap, arith, inl, inr, length, refl, rules, subst, sym, true}
use Rattle.std.proofs.lemmas.List.Elements.{All-contains}
use Rattle.store_repair.specs.Findings.{named}
use Rattle.lrc_code.specs.declared.places.Place.{Place}
use Rattle.std.proofs.lemmas.List.{with_items_is, places}
use Rattle.lrc_code.specs.Sets.{is_in}
use Rattle.store_repair.specs.Mended.{AreLost, IsMendedStripe}
use Rattle.stores.specs.Shown.{AreShown}
use Rattle.store_repair.proofs.RepairLemmas.{are_made}
use Rattle.std.proofs.lemmas.Result.{IfOk-from_err, IfOk-weaker}
use Rattle.store_repair.proofs.MadeLemmas.{none_made, not_made}
use Rattle.store_repair.proofs.making.make_from.Goals as goal

pub returns-in_ok-note_all-in-Ok-true-clause-made : goal.returns-in_ok-note_all-in-Ok-true-clause-made
returns-in_ok-note_all-in-Ok-true-clause-made g c =
    let opened = c.args.opened.now in
    let code = c.args.repair.now.code in
    let stripe = c.args.stripe.now.name.now in
    let lost = c.in_ok-lost.lost.determined.items in
    let shown = g.S.New.NewFragment.shown in
    let new = c.mend.new.files in
    let many = subst (λ o. IfSome o (λ files. length files.items ≡ length c.as_slice-2.result.now)) c.in-Some.is
    c.in_ok-files.ensures.many in
    let lent = ap (λ (l : List _). length l) c.as_mut_slice.ensures.value in
    let of = ap (λ (l : List Place). length l) c.as_slice-2.ensures.value in
    let items = with_items_is c.in-Some.files new (search (rules, places)) in
    let long : length new ≡ length lost = omega (arith, c.mend.auto.files, lent, many, of) in
    rw items (are_made g.S.Survivor.Fragment.shown shown code stripe opened.length opened.set opened.fragments.items
    c.requires.sixteen lost new (g.S.Store.files c.args.store.now) c.requires.opened long c.in_ok-lost.ensures.apart
    c.in_ok-lost.ensures.determined
    (λ lt. c.in_ok-lost.ensures.used (omega (arith, lt, long)))
    (λ xs are whole. subst (λ b. IsMendedStripe shown code (is_in opened.set) xs opened.length lost new b) c.in-Ok-true.field-0-test
    (subst (λ ps. IsMendedStripe shown code (is_in opened.set) xs opened.length ps new c.in-Ok-true.field-0) c.as_slice-3.ensures.value
    (c.in-Ok-true.ensures.mended xs
    (subst (λ fs. AreShown g.S.Survivor.Fragment.shown fs xs) (sym c.as_slice.ensures.value) are) whole))))

pub returns-in_ok-note_all-in-Ok-true-clause-all : goal.returns-in_ok-note_all-in-Ok-true-clause-all
returns-in_ok-note_all-in-Ok-true-clause-all g c = λ reads p has out.
    let lost = c.in_ok-lost.lost in
    let new = named c.note_all.new.findings.items in
    let own : is_in c.to_be_rebuilt-among.result p ≡ true = rw (c.to_be_rebuilt-among.ensures.all reads p, has, out) refl in
    elim (c.in_ok-lost.ensures.all p (record { of_code = has; lost = out; own = own })) as
    (λ _. Contains lost.determined.items p ⊎ Contains new p) [
      | inl is ↦ inl is
      | inr is ↦ inr (All-contains (Contains new) lost.several.items p
          (subst (All (Contains new)) c.as_slice-in-Ok-true.ensures.value c.in_ok-note_all-in-Ok-true.ensures.named) is)
    ]

pub mend-requires-clause-lost : goal.mend-requires-clause-lost
mend-requires-clause-lost g c = subst (AreLost c.args.repair.now.code (is_in c.args.opened.now.set)) (sym c.as_slice-3.ensures.value)
    c.in_ok-lost.ensures.determined

pub returns-in_ok-discard_all-in-Ok-false-clause-made : goal.returns-in_ok-discard_all-in-Ok-false-clause-made
returns-in_ok-discard_all-in-Ok-false-clause-made g c =
    IfOk-weaker c.after_contradiction.result _ _ (none_made _) c.after_contradiction.ensures.not_made

pub returns-in_ok-discard_all-in-Ok-false-clause-checked : goal.returns-in_ok-discard_all-in-Ok-false-clause-checked
returns-in_ok-discard_all-in-Ok-false-clause-checked g c =
    IfOk-weaker c.after_contradiction.result _ _ (none_made _) c.after_contradiction.ensures.not_made

pub returns-in_ok-discard_all-in-Ok-false-clause-all : goal.returns-in_ok-discard_all-in-Ok-false-clause-all
returns-in_ok-discard_all-in-Ok-false-clause-all g c = λ _.
    IfOk-weaker c.after_contradiction.result _ _ (none_made _) c.after_contradiction.ensures.not_made

pub returns-in_ok-discard_all-in-Ok-false-clause-said : goal.returns-in_ok-discard_all-in-Ok-false-clause-said
returns-in_ok-discard_all-in-Ok-false-clause-said g c =
    IfOk-weaker c.after_contradiction.result _ _ (not_made _) c.after_contradiction.ensures.said

pub returns-in_ok-discard_all-in-Err-clause-made : goal.returns-in_ok-discard_all-in-Err-clause-made
returns-in_ok-discard_all-in-Err-clause-made g c =
    IfOk-weaker c.after_fault.result _ _ (none_made _) c.after_fault.ensures.not_made

pub returns-in_ok-discard_all-in-Err-clause-checked : goal.returns-in_ok-discard_all-in-Err-clause-checked
returns-in_ok-discard_all-in-Err-clause-checked g c =
    IfOk-weaker c.after_fault.result _ _ (none_made _) c.after_fault.ensures.not_made

pub returns-in_ok-discard_all-in-Err-clause-all : goal.returns-in_ok-discard_all-in-Err-clause-all
returns-in_ok-discard_all-in-Err-clause-all g c = λ _.
    IfOk-weaker c.after_fault.result _ _ (none_made _) c.after_fault.ensures.not_made

pub returns-in_ok-discard_all-in-Err-clause-said : goal.returns-in_ok-discard_all-in-Err-clause-said
returns-in_ok-discard_all-in-Err-clause-said g c =
    IfOk-weaker c.after_fault.result _ _ (not_made _) c.after_fault.ensures.said

pub returns-in_err-lost-clause-made : goal.returns-in_err-lost-clause-made
returns-in_err-lost-clause-made g c = IfOk-from_err _ _ c.from_residual.ensures.0

pub returns-in_err-lost-clause-checked : goal.returns-in_err-lost-clause-checked
returns-in_err-lost-clause-checked g c = IfOk-from_err _ _ c.from_residual.ensures.0

pub returns-in_err-lost-clause-all : goal.returns-in_err-lost-clause-all
returns-in_err-lost-clause-all g c = λ _. IfOk-from_err _ _ c.from_residual.ensures.0

pub returns-in_err-lost-clause-said : goal.returns-in_err-lost-clause-said
returns-in_err-lost-clause-said g c = IfOk-from_err _ _ c.from_residual.ensures.0

pub returns-in_err-files-clause-made : goal.returns-in_err-files-clause-made
returns-in_err-files-clause-made g c = IfOk-from_err _ _ c.from_residual-in_err-files.ensures.0

pub returns-in_err-files-clause-checked : goal.returns-in_err-files-clause-checked
returns-in_err-files-clause-checked g c = IfOk-from_err _ _ c.from_residual-in_err-files.ensures.0

pub returns-in_err-files-clause-all : goal.returns-in_err-files-clause-all
returns-in_err-files-clause-all g c = λ _. IfOk-from_err _ _ c.from_residual-in_err-files.ensures.0

pub returns-in_err-files-clause-said : goal.returns-in_err-files-clause-said
returns-in_err-files-clause-said g c = IfOk-from_err _ _ c.from_residual-in_err-files.ensures.0

pub returns-in_err-note_all-in-Ok-true-clause-made : goal.returns-in_err-note_all-in-Ok-true-clause-made
returns-in_err-note_all-in-Ok-true-clause-made g c = IfOk-from_err _ _ c.from_residual-in_err-note_all-in-Ok-true.ensures.0

pub returns-in_err-note_all-in-Ok-true-clause-checked : goal.returns-in_err-note_all-in-Ok-true-clause-checked
returns-in_err-note_all-in-Ok-true-clause-checked g c = IfOk-from_err _ _ c.from_residual-in_err-note_all-in-Ok-true.ensures.0

pub returns-in_err-note_all-in-Ok-true-clause-all : goal.returns-in_err-note_all-in-Ok-true-clause-all
returns-in_err-note_all-in-Ok-true-clause-all g c = λ _. IfOk-from_err _ _ c.from_residual-in_err-note_all-in-Ok-true.ensures.0

pub returns-in_err-note_all-in-Ok-true-clause-said : goal.returns-in_err-note_all-in-Ok-true-clause-said
returns-in_err-note_all-in-Ok-true-clause-said g c = IfOk-from_err _ _ c.from_residual-in_err-note_all-in-Ok-true.ensures.0

pub returns-in_err-discard_all-in-Ok-false-clause-made : goal.returns-in_err-discard_all-in-Ok-false-clause-made
returns-in_err-discard_all-in-Ok-false-clause-made g c = IfOk-from_err _ _ c.from_residual-in_err-discard_all-in-Ok-false.ensures.0

pub returns-in_err-discard_all-in-Ok-false-clause-checked : goal.returns-in_err-discard_all-in-Ok-false-clause-checked
returns-in_err-discard_all-in-Ok-false-clause-checked g c = IfOk-from_err _ _ c.from_residual-in_err-discard_all-in-Ok-false.ensures.0

pub returns-in_err-discard_all-in-Ok-false-clause-all : goal.returns-in_err-discard_all-in-Ok-false-clause-all
returns-in_err-discard_all-in-Ok-false-clause-all g c = λ _. IfOk-from_err _ _ c.from_residual-in_err-discard_all-in-Ok-false.ensures.0

pub returns-in_err-discard_all-in-Ok-false-clause-said : goal.returns-in_err-discard_all-in-Ok-false-clause-said
returns-in_err-discard_all-in-Ok-false-clause-said g c = IfOk-from_err _ _ c.from_residual-in_err-discard_all-in-Ok-false.ensures.0

pub returns-in_err-discard_all-in-Err-clause-made : goal.returns-in_err-discard_all-in-Err-clause-made
returns-in_err-discard_all-in-Err-clause-made g c = IfOk-from_err _ _ c.from_residual-in_err-discard_all-in-Err.ensures.0

pub returns-in_err-discard_all-in-Err-clause-checked : goal.returns-in_err-discard_all-in-Err-clause-checked
returns-in_err-discard_all-in-Err-clause-checked g c = IfOk-from_err _ _ c.from_residual-in_err-discard_all-in-Err.ensures.0

pub returns-in_err-discard_all-in-Err-clause-all : goal.returns-in_err-discard_all-in-Err-clause-all
returns-in_err-discard_all-in-Err-clause-all g c = λ _. IfOk-from_err _ _ c.from_residual-in_err-discard_all-in-Err.ensures.0

pub returns-in_err-discard_all-in-Err-clause-said : goal.returns-in_err-discard_all-in-Err-clause-said
returns-in_err-discard_all-in-Err-clause-said g c = IfOk-from_err _ _ c.from_residual-in_err-discard_all-in-Err.ensures.0

pub returns-in_err-files-clause-kept : goal.returns-in_err-files-clause-kept
returns-in_err-files-clause-kept g c = λ given from before. c.new_files.ensures.kept given from before

pub returns-in_default-clause-kept : goal.returns-in_default-clause-kept
returns-in_default-clause-kept g c = λ given from before. c.new_files.ensures.kept given from before

pub returns-in_err-note_all-in-Ok-true-clause-kept : goal.returns-in_err-note_all-in-Ok-true-clause-kept
returns-in_err-note_all-in-Ok-true-clause-kept g c = λ given from before. c.new_files.ensures.kept given from before

pub returns-in_ok-note_all-in-Ok-true-clause-kept : goal.returns-in_ok-note_all-in-Ok-true-clause-kept
returns-in_ok-note_all-in-Ok-true-clause-kept g c = λ given from before. c.new_files.ensures.kept given from before

pub returns-in_err-discard_all-in-Ok-false-clause-kept : goal.returns-in_err-discard_all-in-Ok-false-clause-kept
returns-in_err-discard_all-in-Ok-false-clause-kept g c = λ given from before.
    c.discard_all.ensures.kept _ given from (c.new_files.ensures.kept given from before)

pub returns-in_ok-discard_all-in-Ok-false-clause-kept : goal.returns-in_ok-discard_all-in-Ok-false-clause-kept
returns-in_ok-discard_all-in-Ok-false-clause-kept g c = λ given from before.
    c.discard_all.ensures.kept _ given from (c.new_files.ensures.kept given from before)

pub returns-in_err-discard_all-in-Err-clause-kept : goal.returns-in_err-discard_all-in-Err-clause-kept
returns-in_err-discard_all-in-Err-clause-kept g c = λ given from before.
    c.discard_all-in-Err.ensures.kept _ given from (c.new_files.ensures.kept given from before)

pub returns-in_ok-discard_all-in-Err-clause-kept : goal.returns-in_ok-discard_all-in-Err-clause-kept
returns-in_ok-discard_all-in-Err-clause-kept g c = λ given from before.
    c.discard_all-in-Err.ensures.kept _ given from (c.new_files.ensures.kept given from before)

pub returns-in_default-clause-made : goal.returns-in_default-clause-made
returns-in_default-clause-made g c = tt

pub returns-in_default-clause-checked : goal.returns-in_default-clause-checked
returns-in_default-clause-checked g c = tt

pub returns-in_default-clause-all : goal.returns-in_default-clause-all
returns-in_default-clause-all g c = λ _. tt

pub returns-in_ok-note_all-in-Ok-true-clause-said : goal.returns-in_ok-note_all-in-Ok-true-clause-said
returns-in_ok-note_all-in-Ok-true-clause-said g c = tt
