use Rattle.std.proofs.Common.{◌≡◌, arith, length, subst, sym}
use Rattle.lrc_code.specs.Sets.{is_in}
use Rattle.store_repair.specs.Mended.{IsConsistency}
use Rattle.stores.specs.Shown.{AreShown}
use Rattle.store_repair.proofs.LengthLemmas.{confirmed}
use Rattle.store_repair.proofs.ScrubLemmas.{of_one_stripe}
use Rattle.std.proofs.lemmas.Result.{IfOk-from_err}
use Rattle.store_repair.proofs.lengths.evidence_of.Goals as goal

pub returns-in-Ok-true-clause-checks : goal.returns-in-Ok-true-clause-checks
returns-in-Ok-true-clause-checks g c = λ _.
    let shown = g.S.Survivor.Fragment.shown in
    let code = c.args.code in
    let stripe = c.args.stripe.now.name.now in
    let len = c.args.length in
    let files = g.S.Store.files c.args.store.now in
    let opened = c.in_ok-opened.opened in
    let sixteen : length opened.fragments.items ≡ 16 = omega (arith, c.in_ok-opened.ensures.sixteen) in
    confirmed code len stripe opened.set files (c.are_checked.ensures c.if-not-are_checked.false)
    (of_one_stripe shown code stripe len opened.set opened.fragments.items sixteen files c.in_ok-opened.ensures.opened
    (λ xs are whole. subst (IsConsistency code (is_in opened.set) xs len) c.in-Ok-true.field-0-test
    (c.in-Ok-true.ensures xs (subst (λ fs. AreShown shown fs xs) (sym c.as_slice-2.ensures.value) are) whole)))

pub returns-in_err-opened-clause-checks : goal.returns-in_err-opened-clause-checks
returns-in_err-opened-clause-checks g c = IfOk-from_err _ _ c.from_residual.ensures.0

pub returns-in_err-opened-clause-digest : goal.returns-in_err-opened-clause-digest
returns-in_err-opened-clause-digest g c = IfOk-from_err _ _ c.from_residual.ensures.0

pub returns-in_err-has_digest-clause-checks : goal.returns-in_err-has_digest-clause-checks
returns-in_err-has_digest-clause-checks g c = IfOk-from_err _ _ c.from_residual-in_err-has_digest.ensures.0

pub returns-in_err-has_digest-clause-digest : goal.returns-in_err-has_digest-clause-digest
returns-in_err-has_digest-clause-digest g c = IfOk-from_err _ _ c.from_residual-in_err-has_digest.ensures.0
