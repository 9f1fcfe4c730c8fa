use Rattle.std.proofs.Common.{◌≡◌, ◌∙◌, IfOk, IfSome, ap, refl, subst, sym, true}
use Rattle.lrc_code.specs.Sets.{is_in}
use Rattle.store_repair.specs.Losses.{AreChecked}
use Rattle.store_repair.specs.Opened.{AreMade}
use Rattle.store_repair.proofs.ShownLemmas.{all_accounted}
use Rattle.std.proofs.lemmas.Result.{IfOk-from_err}
use Rattle.store_repair.proofs.repairing.make_lost.Goals as goal
use Rattle.store_repair.proofs.repairing.make_lost.Goals.{then-not-matches+in_ok-made+in_default-2, else-not-matches}

pub returns-clause-shown : goal.returns-clause-shown
returns-clause-shown g c = λ reads.
    all_accounted (g.S.Store.listed c.args.store.now c.args.stripe.now.name.now) c.args.repair.now.code
    c.make.new.findings.items c.make.result
    (c.make.ensures.all refl)

pub returns-clause-kept : goal.returns-clause-kept
returns-clause-kept g c = λ given from before.
    let kept = g.S.Store.kept c.args.stripe.now.name.now given from in
    c.make.ensures.kept given from (elim c.if-not-matches.branch as (λ _. kept c.if-not-matches.store) [
      | then-not-matches+in_ok-made+in_default-2 w ↦ subst kept (sym w.store-is) (w.in_ok-made.ensures.kept given from before)
      | else-not-matches w ↦ subst kept (sym w.store-is) before
    ])

pub returns-clause-made : goal.returns-clause-made
returns-clause-made g c =
    let files = g.S.Store.files in
    let shown = g.S.New.NewFragment.shown in
    let code = c.args.repair.now.code in
    let name = c.args.stripe.now.name.now in
    let same : files c.if-not-matches.store ≡ files c.args.store.now =
    elim c.if-not-matches.branch as (λ _. files c.if-not-matches.store ≡ files c.args.store.now) [
      | then-not-matches+in_ok-made+in_default-2 w ↦ ap files w.store-is ∙ w.in_ok-made.ensures.same
      | else-not-matches w ↦ ap files w.store-is
    ] in
    subst (λ fs. IfOk c.make.result (λ o. IfSome o (λ made. AreMade shown code (is_in made.set) c.args.length name fs made.places.items
    made.files.items))) same
    (subst (λ len. IfOk c.make.result (λ o. IfSome o (λ made. AreMade shown code (is_in made.set) len name
    (files c.if-not-matches.store) made.places.items made.files.items))) c.in_ok-opened.ensures.length c.make.ensures.made)

pub returns-clause-checked : goal.returns-clause-checked
returns-clause-checked g c =
    subst (λ len. IfOk c.make.result (λ o. IfSome o (λ made. made.is_checked ≡ true → AreChecked c.args.repair.now.code (is_in made.set)
    len))) c.in_ok-opened.ensures.length c.make.ensures.checked

pub returns-in_err-made-clause-made : goal.returns-in_err-made-clause-made
returns-in_err-made-clause-made g c = IfOk-from_err _ _ c.from_residual.ensures.0

pub returns-in_err-made-clause-checked : goal.returns-in_err-made-clause-checked
returns-in_err-made-clause-checked g c = IfOk-from_err _ _ c.from_residual.ensures.0

pub returns-in_err-made-clause-all : goal.returns-in_err-made-clause-all
returns-in_err-made-clause-all g c = λ _. IfOk-from_err _ _ c.from_residual.ensures.0

pub returns-in_err-made-clause-shown : goal.returns-in_err-made-clause-shown
returns-in_err-made-clause-shown g c = λ _. IfOk-from_err _ _ c.from_residual.ensures.0

pub returns-in_err-made-clause-said : goal.returns-in_err-made-clause-said
returns-in_err-made-clause-said g c = IfOk-from_err _ _ c.from_residual.ensures.0

pub returns-in_err-opened-clause-made : goal.returns-in_err-opened-clause-made
returns-in_err-opened-clause-made g c = IfOk-from_err _ _ c.from_residual-in_err-opened.ensures.0

pub returns-in_err-opened-clause-checked : goal.returns-in_err-opened-clause-checked
returns-in_err-opened-clause-checked g c = IfOk-from_err _ _ c.from_residual-in_err-opened.ensures.0

pub returns-in_err-opened-clause-all : goal.returns-in_err-opened-clause-all
returns-in_err-opened-clause-all g c = λ _. IfOk-from_err _ _ c.from_residual-in_err-opened.ensures.0

pub returns-in_err-opened-clause-shown : goal.returns-in_err-opened-clause-shown
returns-in_err-opened-clause-shown g c = λ _. IfOk-from_err _ _ c.from_residual-in_err-opened.ensures.0

pub returns-in_err-opened-clause-said : goal.returns-in_err-opened-clause-said
returns-in_err-opened-clause-said g c = IfOk-from_err _ _ c.from_residual-in_err-opened.ensures.0
