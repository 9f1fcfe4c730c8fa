use Rattle.std.proofs.Common.{◌≡◌, ◌∙◌, IfSome, arith, false, inl, inr, refl, subst, true, vec_len}
use Rattle.lrc_code.specs.Sets.{is_in}
use Rattle.stores.specs.Stripes.{has_file}
use Rattle.store_repair.specs.Opened.{AreFound, AreOpened}
use Rattle.store_repair.proofs.AccountedLemmas.{without_length}
use Rattle.store_repair.proofs.OpenedLemmas.{are_there}
use Rattle.std.proofs.lemmas.Result.{IfOk-from_err}
use Rattle.store_repair.proofs.planning.plan_stripe.Goals as goal
use Rattle.store_repair.proofs.planning.plan_stripe.Goals.{in-All, in_default-matches}

pub returns-clause-opened : goal.returns-clause-opened
returns-clause-opened g c =
    let shown = g.S.Survivor.Fragment.shown in
    let code = c.args.repair.now.code in
    let files = g.S.Store.files c.args.store.now in
    let opened = c.in_ok-opened.opened in
    let len = c.in-Some.length in
    rw (c.in_ok-plan-2.ensures.survivors, c.in_ok-plan-2.ensures.length, c.in_ok-opened.ensures.length)
    (are_there shown code c.args.stripe.now.name.now len files opened.set opened.fragments.items
    (let sixteen = c.in_ok-opened.ensures.sixteen in omega (arith, sixteen))
    c.in_ok-opened.ensures.opened)

pub returns-clause-all : goal.returns-clause-all
returns-clause-all g c = λ reads. inl (c.in_ok-plan-2.ensures.all refl)

pub returns-clause-absent : goal.returns-clause-absent
returns-clause-absent g c = inl c.in_ok-plan-2.ensures.absent

pub returns-clause-unopened : goal.returns-clause-unopened
returns-clause-unopened g c = λ reads. inl (λ p has is out.
    c.in_ok-plan-2.ensures.stay p (c.in_ok-opened.ensures.named p has
    (subst (λ len. has_file c.args.stripe.now.files.found len p ≡ true) (c.in_ok-plan-2.ensures.length ∙ c.in_ok-opened.ensures.length) is)
    (subst (λ set. is_in set p ≡ false) c.in_ok-plan-2.ensures.survivors out)))

pub returns-in-Some-2-clause-all : goal.returns-in-Some-2-clause-all
returns-in-Some-2-clause-all g c = λ reads. inl (c.in_ok-plan.ensures.all reads)

pub returns-in-Some-2-clause-absent : goal.returns-in-Some-2-clause-absent
returns-in-Some-2-clause-absent g c = inl c.in_ok-plan.ensures.absent

pub returns-in-Some-2-clause-unopened : goal.returns-in-Some-2-clause-unopened
returns-in-Some-2-clause-unopened g c = λ reads. absurd (elim c.match-matches.branch as (λ _. ⊥) [
  | in-All w ↦ (let on = w.matches-is in let off = c.if-not-matches.true in cc)
  | in_default-matches w ↦ w.in_default-matches.not-All reads
])

pub returns-in_default-clause-all : goal.returns-in_default-clause-all
returns-in_default-clause-all g c = λ reads. inr (without_length c.args.repair.now.code
    (is_in c.of.result.survivors) c.args.stripe.now.files.found c.length_or_note.new.findings.items c.of.result.findings.items
    c.in_ok-known.known c.in_default.is c.of.ensures.findings c.in_ok-known.ensures.none
    c.in_ok-known.ensures.several c.of.ensures.survivors)

pub returns-in_default-clause-absent : goal.returns-in_default-clause-absent
returns-in_default-clause-absent g c = inr (without_length c.args.repair.now.code
    (is_in c.of.result.survivors) c.args.stripe.now.files.found c.length_or_note.new.findings.items c.of.result.findings.items
    c.in_ok-known.known c.in_default.is c.of.ensures.findings c.in_ok-known.ensures.none
    c.in_ok-known.ensures.several c.of.ensures.survivors)

pub returns-in_default-clause-unopened : goal.returns-in_default-clause-unopened
returns-in_default-clause-unopened g c = λ reads. inr (without_length c.args.repair.now.code
    (is_in c.of.result.survivors) c.args.stripe.now.files.found c.length_or_note.new.findings.items c.of.result.findings.items
    c.in_ok-known.known c.in_default.is c.of.ensures.findings c.in_ok-known.ensures.none
    c.in_ok-known.ensures.several c.of.ensures.survivors)

pub returns-in-Some-2-clause-opened : goal.returns-in-Some-2-clause-opened
returns-in-Some-2-clause-opened g c =
    let shown = g.S.Survivor.Fragment.shown in
    let code = c.args.repair.now.code in
    let name = c.args.stripe.now.name.now in
    let files = g.S.Store.files c.args.store.now in
    let opened = c.in-Some-2.few.opened in
    let len = c.in-Some.length in
    let long = subst (λ o. IfSome o (λ few. few.opened.length ≡ len)) c.in-Some-2.is c.in_ok-few.ensures.length in
    let sixteen = subst (λ o. IfSome o (λ few. vec_len few.opened.fragments ≡ 16)) c.in-Some-2.is c.in_ok-few.ensures.sixteen in
    rw (c.in_ok-plan.ensures.survivors, c.in_ok-plan.ensures.length, long)
    (are_there shown code name len files opened.set opened.fragments.items (omega (arith, sixteen))
    (subst (λ o. IfSome o (λ few. AreOpened shown code name len files few.opened.set few.opened.fragments.items)) c.in-Some-2.is
    c.in_ok-few.ensures.opened))

pub returns-clause-found : goal.returns-clause-found
returns-clause-found g c =
    rw (c.in_ok-plan-2.ensures.survivors, c.in_ok-plan-2.ensures.length, c.in_ok-opened.ensures.length) c.in_ok-opened.ensures.found

pub returns-in-Some-2-clause-found : goal.returns-in-Some-2-clause-found
returns-in-Some-2-clause-found g c =
    let len = c.in-Some.length in
    let long = subst (λ o. IfSome o (λ few. few.opened.length ≡ len)) c.in-Some-2.is c.in_ok-few.ensures.length in
    rw (c.in_ok-plan.ensures.survivors, c.in_ok-plan.ensures.length, long)
    (subst (λ o. IfSome o (λ few. AreFound c.args.repair.now.code c.args.stripe.now.files.found len (is_in few.opened.set))) c.in-Some-2.is
    c.in_ok-few.ensures.found)

pub returns-in_err-known-clause-lost : goal.returns-in_err-known-clause-lost
returns-in_err-known-clause-lost g c = IfOk-from_err _ _ c.from_residual.ensures.0

pub returns-in_err-known-clause-apart : goal.returns-in_err-known-clause-apart
returns-in_err-known-clause-apart g c = IfOk-from_err _ _ c.from_residual.ensures.0

pub returns-in_err-known-clause-determined : goal.returns-in_err-known-clause-determined
returns-in_err-known-clause-determined g c = IfOk-from_err _ _ c.from_residual.ensures.0

pub returns-in_err-known-clause-all : goal.returns-in_err-known-clause-all
returns-in_err-known-clause-all g c = λ _. IfOk-from_err _ _ c.from_residual.ensures.0

pub returns-in_err-known-clause-absent : goal.returns-in_err-known-clause-absent
returns-in_err-known-clause-absent g c = IfOk-from_err _ _ c.from_residual.ensures.0

pub returns-in_err-known-clause-unopened : goal.returns-in_err-known-clause-unopened
returns-in_err-known-clause-unopened g c = λ _. IfOk-from_err _ _ c.from_residual.ensures.0

pub returns-in_err-known-clause-opened : goal.returns-in_err-known-clause-opened
returns-in_err-known-clause-opened g c = IfOk-from_err _ _ c.from_residual.ensures.0

pub returns-in_err-known-clause-found : goal.returns-in_err-known-clause-found
returns-in_err-known-clause-found g c = IfOk-from_err _ _ c.from_residual.ensures.0

pub returns-in_err-known-clause-checked : goal.returns-in_err-known-clause-checked
returns-in_err-known-clause-checked g c = IfOk-from_err _ _ c.from_residual.ensures.0

pub returns-in_err-few-clause-lost : goal.returns-in_err-few-clause-lost
returns-in_err-few-clause-lost g c = IfOk-from_err _ _ c.from_residual-in_err-few.ensures.0

pub returns-in_err-few-clause-apart : goal.returns-in_err-few-clause-apart
returns-in_err-few-clause-apart g c = IfOk-from_err _ _ c.from_residual-in_err-few.ensures.0

pub returns-in_err-few-clause-determined : goal.returns-in_err-few-clause-determined
returns-in_err-few-clause-determined g c = IfOk-from_err _ _ c.from_residual-in_err-few.ensures.0

pub returns-in_err-few-clause-all : goal.returns-in_err-few-clause-all
returns-in_err-few-clause-all g c = λ _. IfOk-from_err _ _ c.from_residual-in_err-few.ensures.0

pub returns-in_err-few-clause-absent : goal.returns-in_err-few-clause-absent
returns-in_err-few-clause-absent g c = IfOk-from_err _ _ c.from_residual-in_err-few.ensures.0

pub returns-in_err-few-clause-unopened : goal.returns-in_err-few-clause-unopened
returns-in_err-few-clause-unopened g c = λ _. IfOk-from_err _ _ c.from_residual-in_err-few.ensures.0

pub returns-in_err-few-clause-opened : goal.returns-in_err-few-clause-opened
returns-in_err-few-clause-opened g c = IfOk-from_err _ _ c.from_residual-in_err-few.ensures.0

pub returns-in_err-few-clause-found : goal.returns-in_err-few-clause-found
returns-in_err-few-clause-found g c = IfOk-from_err _ _ c.from_residual-in_err-few.ensures.0

pub returns-in_err-few-clause-checked : goal.returns-in_err-few-clause-checked
returns-in_err-few-clause-checked g c = IfOk-from_err _ _ c.from_residual-in_err-few.ensures.0

pub returns-in_err-plan-clause-lost : goal.returns-in_err-plan-clause-lost
returns-in_err-plan-clause-lost g c = IfOk-from_err _ _ c.from_residual-in_err-plan.ensures.0

pub returns-in_err-plan-clause-apart : goal.returns-in_err-plan-clause-apart
returns-in_err-plan-clause-apart g c = IfOk-from_err _ _ c.from_residual-in_err-plan.ensures.0

pub returns-in_err-plan-clause-determined : goal.returns-in_err-plan-clause-determined
returns-in_err-plan-clause-determined g c = IfOk-from_err _ _ c.from_residual-in_err-plan.ensures.0

pub returns-in_err-plan-clause-all : goal.returns-in_err-plan-clause-all
returns-in_err-plan-clause-all g c = λ _. IfOk-from_err _ _ c.from_residual-in_err-plan.ensures.0

pub returns-in_err-plan-clause-absent : goal.returns-in_err-plan-clause-absent
returns-in_err-plan-clause-absent g c = IfOk-from_err _ _ c.from_residual-in_err-plan.ensures.0

pub returns-in_err-plan-clause-unopened : goal.returns-in_err-plan-clause-unopened
returns-in_err-plan-clause-unopened g c = λ _. IfOk-from_err _ _ c.from_residual-in_err-plan.ensures.0

pub returns-in_err-plan-clause-opened : goal.returns-in_err-plan-clause-opened
returns-in_err-plan-clause-opened g c = IfOk-from_err _ _ c.from_residual-in_err-plan.ensures.0

pub returns-in_err-plan-clause-found : goal.returns-in_err-plan-clause-found
returns-in_err-plan-clause-found g c = IfOk-from_err _ _ c.from_residual-in_err-plan.ensures.0

pub returns-in_err-plan-clause-checked : goal.returns-in_err-plan-clause-checked
returns-in_err-plan-clause-checked g c = IfOk-from_err _ _ c.from_residual-in_err-plan.ensures.0

pub returns-in_err-opened-clause-lost : goal.returns-in_err-opened-clause-lost
returns-in_err-opened-clause-lost g c = IfOk-from_err _ _ c.from_residual-in_err-opened.ensures.0

pub returns-in_err-opened-clause-apart : goal.returns-in_err-opened-clause-apart
returns-in_err-opened-clause-apart g c = IfOk-from_err _ _ c.from_residual-in_err-opened.ensures.0

pub returns-in_err-opened-clause-determined : goal.returns-in_err-opened-clause-determined
returns-in_err-opened-clause-determined g c = IfOk-from_err _ _ c.from_residual-in_err-opened.ensures.0

pub returns-in_err-opened-clause-all : goal.returns-in_err-opened-clause-all
returns-in_err-opened-clause-all g c = λ _. IfOk-from_err _ _ c.from_residual-in_err-opened.ensures.0

pub returns-in_err-opened-clause-absent : goal.returns-in_err-opened-clause-absent
returns-in_err-opened-clause-absent g c = IfOk-from_err _ _ c.from_residual-in_err-opened.ensures.0

pub returns-in_err-opened-clause-unopened : goal.returns-in_err-opened-clause-unopened
returns-in_err-opened-clause-unopened g c = λ _. IfOk-from_err _ _ c.from_residual-in_err-opened.ensures.0

pub returns-in_err-opened-clause-opened : goal.returns-in_err-opened-clause-opened
returns-in_err-opened-clause-opened g c = IfOk-from_err _ _ c.from_residual-in_err-opened.ensures.0

pub returns-in_err-opened-clause-found : goal.returns-in_err-opened-clause-found
returns-in_err-opened-clause-found g c = IfOk-from_err _ _ c.from_residual-in_err-opened.ensures.0

pub returns-in_err-opened-clause-checked : goal.returns-in_err-opened-clause-checked
returns-in_err-opened-clause-checked g c = IfOk-from_err _ _ c.from_residual-in_err-opened.ensures.0

pub returns-in_err-plan-2-clause-lost : goal.returns-in_err-plan-2-clause-lost
returns-in_err-plan-2-clause-lost g c = IfOk-from_err _ _ c.from_residual-in_err-plan-2.ensures.0

pub returns-in_err-plan-2-clause-apart : goal.returns-in_err-plan-2-clause-apart
returns-in_err-plan-2-clause-apart g c = IfOk-from_err _ _ c.from_residual-in_err-plan-2.ensures.0

pub returns-in_err-plan-2-clause-determined : goal.returns-in_err-plan-2-clause-determined
returns-in_err-plan-2-clause-determined g c = IfOk-from_err _ _ c.from_residual-in_err-plan-2.ensures.0

pub returns-in_err-plan-2-clause-all : goal.returns-in_err-plan-2-clause-all
returns-in_err-plan-2-clause-all g c = λ _. IfOk-from_err _ _ c.from_residual-in_err-plan-2.ensures.0

pub returns-in_err-plan-2-clause-absent : goal.returns-in_err-plan-2-clause-absent
returns-in_err-plan-2-clause-absent g c = IfOk-from_err _ _ c.from_residual-in_err-plan-2.ensures.0

pub returns-in_err-plan-2-clause-unopened : goal.returns-in_err-plan-2-clause-unopened
returns-in_err-plan-2-clause-unopened g c = λ _. IfOk-from_err _ _ c.from_residual-in_err-plan-2.ensures.0

pub returns-in_err-plan-2-clause-opened : goal.returns-in_err-plan-2-clause-opened
returns-in_err-plan-2-clause-opened g c = IfOk-from_err _ _ c.from_residual-in_err-plan-2.ensures.0

pub returns-in_err-plan-2-clause-found : goal.returns-in_err-plan-2-clause-found
returns-in_err-plan-2-clause-found g c = IfOk-from_err _ _ c.from_residual-in_err-plan-2.ensures.0

pub returns-in_err-plan-2-clause-checked : goal.returns-in_err-plan-2-clause-checked
returns-in_err-plan-2-clause-checked g c = IfOk-from_err _ _ c.from_residual-in_err-plan-2.ensures.0
