use Rattle.std.proofs.Common.{◌≡◌, ◌≢◌, ◌∙◌, [], ap, arith, inl, inr, length, subst, sym}
use Rattle.std.specs.Prelude.{IfNone}
use Rattle.std.proofs.lemmas.Bool.{cases_Bool}
use Rattle.lrc_code.specs.Codes.{tables_of}
use Rattle.lrc_code.specs.Sets.{is_in}
use Rattle.lrc_plan.specs.Stripes.{at_place, IsPossible}
use Rattle.store_repair.specs.Scrubbed.{IsDamagedFragment, said_damaged}
use Rattle.stores.specs.Shown.{AreShown}
use Rattle.store_repair.proofs.AccountedLemmas.{all_accounted, all_survive, whole_of_all, without_length}
use Rattle.store_repair.proofs.CheckLemmas.{fits_none, unchecked_possible}
use Rattle.store_repair.proofs.OpenedLemmas.{are_there}
use Rattle.store_repair.proofs.WindowLemmas.{shown_length}
use Rattle.store_repair.proofs.ScrubLemmas.{damaged_fragments, none_said, of_one_stripe}
use Rattle.std.proofs.lemmas.Result.{IfOk-from_err}
use Rattle.store_repair.proofs.scrubbing.scrub_stripe.Goals as goal

pub returns-in_default-clause-damaged : goal.returns-in_default-clause-damaged
returns-in_default-clause-damaged g c =
    none_said (g.S.Store.files c.args.store.now)
    (λ files. IsDamagedFragment c.args.code (is_in c.of.result.survivors) c.of.result.length c.args.stripe.now.name.now files)
    (said_damaged c.of.result.findings.items)
    (ap said_damaged c.of.ensures.findings ∙ c.in_ok-known.ensures.said ∙ ap said_damaged c.new-findings.ensures.items)

pub returns-in_default-clause-silent : goal.returns-in_default-clause-silent
returns-in_default-clause-silent g c = λ none checked. absurd (let off = c.of.ensures.checked in cc)

pub returns-clause-damaged : goal.returns-clause-damaged
returns-clause-damaged g c =
    let shown = g.S.Survivor.Fragment.shown in
    let opened = c.in_ok-opened.opened in
    let sixteen : length opened.fragments.items ≡ 16 = omega (arith, c.in_ok-opened.ensures.sixteen) in
    damaged_fragments shown c.args.code c.args.stripe.now.name.now c.in-Some.length opened.set opened.fragments.items sixteen
    (g.S.Store.files c.args.store.now) c.in_ok-opened.ensures.opened (said_damaged c.test.new.findings.items)
    (λ xs are whole. c.in_ok-test.ensures.damaged xs (subst (λ fs. AreShown shown fs xs) (sym c.as_slice.ensures.value) are) whole
    (c.in_ok-opened.ensures.said ∙ c.in_ok-note_lost.ensures.said ∙ c.in_ok-known.ensures.said
    ∙ ap said_damaged c.new-findings.ensures.items))

pub returns-clause-silent : goal.returns-clause-silent
returns-clause-silent g c = λ none checked.
    let shown = g.S.Survivor.Fragment.shown in
    let opened = c.in_ok-opened.opened in
    let sixteen : length opened.fragments.items ≡ 16 = omega (arith, c.in_ok-opened.ensures.sixteen) in
    of_one_stripe shown c.args.code c.args.stripe.now.name.now c.in-Some.length opened.set opened.fragments.items sixteen
    (g.S.Store.files c.args.store.now) c.in_ok-opened.ensures.opened
    (λ xs are whole.
    c.in_ok-test.ensures.silent xs (subst (λ fs. AreShown shown fs xs) (sym c.as_slice.ensures.value) are) whole checked none)

pub returns-in_default-clause-all : goal.returns-in_default-clause-all
returns-in_default-clause-all g c = inr (without_length c.args.code (is_in c.of.result.survivors) c.args.stripe.now.files.found
    c.length_or_note.new.findings.items c.of.result.findings.items c.in_ok-known.known c.in_default.is c.of.ensures.findings
    c.in_ok-known.ensures.none c.in_ok-known.ensures.several c.of.ensures.survivors)

pub returns-in_default-clause-whole : goal.returns-in_default-clause-whole
returns-in_default-clause-whole g c = λ none. absurd (
    subst (λ o. IfNone o (c.length_or_note.new.findings.items ≢ [])) c.in_default.is c.in_ok-known.ensures.some
    (sym c.of.ensures.findings ∙ none))

pub returns-clause-opened : goal.returns-clause-opened
returns-clause-opened g c =
    let opened = c.in_ok-opened.opened in
    are_there g.S.Survivor.Fragment.shown c.args.code c.args.stripe.now.name.now c.in-Some.length (g.S.Store.files c.args.store.now)
    opened.set opened.fragments.items (let sixteen = c.in_ok-opened.ensures.sixteen in omega (arith, sixteen)) c.in_ok-opened.ensures.opened

pub returns-clause-all : goal.returns-clause-all
returns-clause-all g c = inl (all_accounted c.args.code (is_in c.in_ok-opened.opened.set) c.args.stripe.now.files.found c.in-Some.length
    c.note_lost.new.findings.items c.open_survivors.new.findings.items c.test.new.findings.items c.in_ok-note_lost.ensures.lost
    c.in_ok-opened.ensures.stay c.in_ok-opened.ensures.named c.in_ok-test.ensures.stay)

pub returns-clause-whole : goal.returns-clause-whole
returns-clause-whole g c = λ none.
    let shown = g.S.Survivor.Fragment.shown in
    let code = c.args.code in
    let name = c.args.stripe.now.name.now in
    let len = c.in-Some.length in
    let opened = c.in_ok-opened.opened in
    let set = opened.set in
    let files = g.S.Store.files c.args.store.now in
    let sixteen : length opened.fragments.items ≡ 16 = omega (arith, c.in_ok-opened.ensures.sixteen) in
    whole_of_all code (is_in set) len name files
    (all_survive code (is_in set) c.args.stripe.now.files.found c.test.new.findings.items (returns-clause-all g c) none)
    (of_one_stripe shown code name len set opened.fragments.items sixteen files c.in_ok-opened.ensures.opened
    (λ xs are whole. elim (cases_Bool c.have_checks-is_checked.result) as (λ _. IsPossible (tables_of code) (is_in set) (at_place xs) len) [
      | inl on ↦ c.in_ok-test.ensures.silent xs (subst (λ fs. AreShown shown fs xs) (sym c.as_slice.ensures.value) are) whole on none
      | inr off ↦ unchecked_possible code (is_in set) xs len whole are.bytes
          (sym (shown_length shown opened.fragments.items xs are) ∙ sixteen)
          (c.have_checks-is_checked.ensures.no off)
    ]))

pub returns-in_default-clause-unchecked : goal.returns-in_default-clause-unchecked
returns-in_default-clause-unchecked g c = λ off. fits_none c.args.code (is_in c.of.result.survivors) c.of.ensures.survivors

pub returns-in_err-known-clause-damaged : goal.returns-in_err-known-clause-damaged
returns-in_err-known-clause-damaged g c = IfOk-from_err _ _ c.from_residual.ensures.0

pub returns-in_err-known-clause-silent : goal.returns-in_err-known-clause-silent
returns-in_err-known-clause-silent g c = IfOk-from_err _ _ c.from_residual.ensures.0

pub returns-in_err-known-clause-checked : goal.returns-in_err-known-clause-checked
returns-in_err-known-clause-checked g c = IfOk-from_err _ _ c.from_residual.ensures.0

pub returns-in_err-known-clause-unchecked : goal.returns-in_err-known-clause-unchecked
returns-in_err-known-clause-unchecked g c = IfOk-from_err _ _ c.from_residual.ensures.0

pub returns-in_err-known-clause-opened : goal.returns-in_err-known-clause-opened
returns-in_err-known-clause-opened g c = IfOk-from_err _ _ c.from_residual.ensures.0

pub returns-in_err-known-clause-found : goal.returns-in_err-known-clause-found
returns-in_err-known-clause-found g c = IfOk-from_err _ _ c.from_residual.ensures.0

pub returns-in_err-known-clause-all : goal.returns-in_err-known-clause-all
returns-in_err-known-clause-all g c = IfOk-from_err _ _ c.from_residual.ensures.0

pub returns-in_err-known-clause-rebuilt : goal.returns-in_err-known-clause-rebuilt
returns-in_err-known-clause-rebuilt g c = IfOk-from_err _ _ c.from_residual.ensures.0

pub returns-in_err-known-clause-whole : goal.returns-in_err-known-clause-whole
returns-in_err-known-clause-whole g c = IfOk-from_err _ _ c.from_residual.ensures.0

pub returns-in_err-note_lost-clause-damaged : goal.returns-in_err-note_lost-clause-damaged
returns-in_err-note_lost-clause-damaged g c = IfOk-from_err _ _ c.from_residual-in_err-note_lost.ensures.0

pub returns-in_err-note_lost-clause-silent : goal.returns-in_err-note_lost-clause-silent
returns-in_err-note_lost-clause-silent g c = IfOk-from_err _ _ c.from_residual-in_err-note_lost.ensures.0

pub returns-in_err-note_lost-clause-checked : goal.returns-in_err-note_lost-clause-checked
returns-in_err-note_lost-clause-checked g c = IfOk-from_err _ _ c.from_residual-in_err-note_lost.ensures.0

pub returns-in_err-note_lost-clause-unchecked : goal.returns-in_err-note_lost-clause-unchecked
returns-in_err-note_lost-clause-unchecked g c = IfOk-from_err _ _ c.from_residual-in_err-note_lost.ensures.0

pub returns-in_err-note_lost-clause-opened : goal.returns-in_err-note_lost-clause-opened
returns-in_err-note_lost-clause-opened g c = IfOk-from_err _ _ c.from_residual-in_err-note_lost.ensures.0

pub returns-in_err-note_lost-clause-found : goal.returns-in_err-note_lost-clause-found
returns-in_err-note_lost-clause-found g c = IfOk-from_err _ _ c.from_residual-in_err-note_lost.ensures.0

pub returns-in_err-note_lost-clause-all : goal.returns-in_err-note_lost-clause-all
returns-in_err-note_lost-clause-all g c = IfOk-from_err _ _ c.from_residual-in_err-note_lost.ensures.0

pub returns-in_err-note_lost-clause-rebuilt : goal.returns-in_err-note_lost-clause-rebuilt
returns-in_err-note_lost-clause-rebuilt g c = IfOk-from_err _ _ c.from_residual-in_err-note_lost.ensures.0

pub returns-in_err-note_lost-clause-whole : goal.returns-in_err-note_lost-clause-whole
returns-in_err-note_lost-clause-whole g c = IfOk-from_err _ _ c.from_residual-in_err-note_lost.ensures.0

pub returns-in_err-opened-clause-damaged : goal.returns-in_err-opened-clause-damaged
returns-in_err-opened-clause-damaged g c = IfOk-from_err _ _ c.from_residual-in_err-opened.ensures.0

pub returns-in_err-opened-clause-silent : goal.returns-in_err-opened-clause-silent
returns-in_err-opened-clause-silent g c = IfOk-from_err _ _ c.from_residual-in_err-opened.ensures.0

pub returns-in_err-opened-clause-checked : goal.returns-in_err-opened-clause-checked
returns-in_err-opened-clause-checked g c = IfOk-from_err _ _ c.from_residual-in_err-opened.ensures.0

pub returns-in_err-opened-clause-unchecked : goal.returns-in_err-opened-clause-unchecked
returns-in_err-opened-clause-unchecked g c = IfOk-from_err _ _ c.from_residual-in_err-opened.ensures.0

pub returns-in_err-opened-clause-opened : goal.returns-in_err-opened-clause-opened
returns-in_err-opened-clause-opened g c = IfOk-from_err _ _ c.from_residual-in_err-opened.ensures.0

pub returns-in_err-opened-clause-found : goal.returns-in_err-opened-clause-found
returns-in_err-opened-clause-found g c = IfOk-from_err _ _ c.from_residual-in_err-opened.ensures.0

pub returns-in_err-opened-clause-all : goal.returns-in_err-opened-clause-all
returns-in_err-opened-clause-all g c = IfOk-from_err _ _ c.from_residual-in_err-opened.ensures.0

pub returns-in_err-opened-clause-rebuilt : goal.returns-in_err-opened-clause-rebuilt
returns-in_err-opened-clause-rebuilt g c = IfOk-from_err _ _ c.from_residual-in_err-opened.ensures.0

pub returns-in_err-opened-clause-whole : goal.returns-in_err-opened-clause-whole
returns-in_err-opened-clause-whole g c = IfOk-from_err _ _ c.from_residual-in_err-opened.ensures.0

pub returns-in_err-test-clause-damaged : goal.returns-in_err-test-clause-damaged
returns-in_err-test-clause-damaged g c = IfOk-from_err _ _ c.from_residual-in_err-test.ensures.0

pub returns-in_err-test-clause-silent : goal.returns-in_err-test-clause-silent
returns-in_err-test-clause-silent g c = IfOk-from_err _ _ c.from_residual-in_err-test.ensures.0

pub returns-in_err-test-clause-checked : goal.returns-in_err-test-clause-checked
returns-in_err-test-clause-checked g c = IfOk-from_err _ _ c.from_residual-in_err-test.ensures.0

pub returns-in_err-test-clause-unchecked : goal.returns-in_err-test-clause-unchecked
returns-in_err-test-clause-unchecked g c = IfOk-from_err _ _ c.from_residual-in_err-test.ensures.0

pub returns-in_err-test-clause-opened : goal.returns-in_err-test-clause-opened
returns-in_err-test-clause-opened g c = IfOk-from_err _ _ c.from_residual-in_err-test.ensures.0

pub returns-in_err-test-clause-found : goal.returns-in_err-test-clause-found
returns-in_err-test-clause-found g c = IfOk-from_err _ _ c.from_residual-in_err-test.ensures.0

pub returns-in_err-test-clause-all : goal.returns-in_err-test-clause-all
returns-in_err-test-clause-all g c = IfOk-from_err _ _ c.from_residual-in_err-test.ensures.0

pub returns-in_err-test-clause-rebuilt : goal.returns-in_err-test-clause-rebuilt
returns-in_err-test-clause-rebuilt g c = IfOk-from_err _ _ c.from_residual-in_err-test.ensures.0

pub returns-in_err-test-clause-whole : goal.returns-in_err-test-clause-whole
returns-in_err-test-clause-whole g c = IfOk-from_err _ _ c.from_residual-in_err-test.ensures.0
