use Rattle.std.proofs.Common.{◌∙◌, ◌≡◌, sym, ap, subst, arith, cond, refl, vec_len}
use Rattle.std.specs.Prelude.{◌||◌, is_some}
use Rattle.lrc_code.specs.declared.places.Place.{Place}
use Rattle.lrc_code.specs.Places.{same_place}
use Rattle.lrc_code.specs.Sets.{is_in}
use Rattle.store_repair.specs.Opened.{AreOpened}
use Rattle.lrc_code.proofs.PlaceSums.{index_of-lt}
use Rattle.store_repair.proofs.AccountedLemmas.{found_next, opened_next}
use Rattle.store_repair.proofs.OpenedLemmas.{opened_more}
use Rattle.std.proofs.lemmas.Result.{IfOk-from_err}
use Rattle.store_repair.proofs.opening.open_all.Goals as goal
use Rattle.store_repair.proofs.opening.open_all.Goals.{then-is_some, else-is_some}

pub places-preserved : goal.places-preserved
places-preserved g c =
    let set = c.places.set in
    let x = c.in_ok-fragment.fragment in
    let p = c.nth_place-place.result in
    let step : (q : Place) → is_in c.if-is_some.set q ≡ cond (is_some x) (same_place p q || is_in set q) (is_in set q) =
    λ q. elim c.if-is_some.branch [
      | then-is_some w ↦ ap (λ s. is_in s q) w.set-is ∙ w.with-set.ensures q
          ∙ rw (sym c.is_some.ensures ∙ w.if-is_some.true) refl
      | else-is_some w ↦ ap (λ s. is_in s q) w.set-is ∙ rw (sym c.is_some.ensures ∙ w.if-is_some.false) refl
    ] in
    record {
      bound = omega (arith, c.places-test.true, c.in_ok-push.ensures.len);
      said = c.in_ok-fragment.ensures.said ∙ c.places.invariant.said;
      stay = λ q is. c.in_ok-fragment.ensures.stay q (c.places.invariant.stay q is);
      named = λ q lt. opened_next c.args.code c.args.stripe.now.files.found c.args.length set c.if-is_some.set x
          c.places.findings.items c.open_at.new.findings.items (vec_len c.places.fragments) p
          (c.nth_place-place.ensures ∙ c.len-in-places.ensures) step c.in_ok-fragment.ensures.stay c.in_ok-fragment.ensures.named
          c.places.invariant.named q (let more = c.in_ok-push.ensures.len in omega (arith, lt, more));
      found = found_next c.args.code c.args.stripe.now.files.found c.args.length set c.if-is_some.set x p step
          c.in_ok-fragment.ensures.found c.places.invariant.found;
      opened = subst (AreOpened g.S.Survivor.Fragment.shown c.args.code c.args.stripe.now.name.now c.args.length
          (g.S.Store.files c.args.store.now) c.if-is_some.set) (sym c.in_ok-push.ensures.items)
          (opened_more g.S.Survivor.Fragment.shown c.args.code c.args.stripe.now.name.now c.args.length
          (g.S.Store.files c.args.store.now) set c.if-is_some.set c.places.fragments.items x p
          (c.nth_place-place.ensures ∙ c.len-in-places.ensures ∙ c.places.fragments.ok.0) c.in_ok-fragment.ensures.opened step
          c.places.invariant.opened);
    }

pub returns-clause-named : goal.returns-clause-named
returns-clause-named g c = λ p.
    c.places.invariant.named p (let lt = index_of-lt p in let end = c.places-test.false in omega (arith, lt, end))

pub returns-in_err-fragments-clause-sixteen : goal.returns-in_err-fragments-clause-sixteen
returns-in_err-fragments-clause-sixteen g c = IfOk-from_err _ _ c.from_residual.ensures.0

pub returns-in_err-fragments-clause-length : goal.returns-in_err-fragments-clause-length
returns-in_err-fragments-clause-length g c = IfOk-from_err _ _ c.from_residual.ensures.0

pub returns-in_err-fragments-clause-opened : goal.returns-in_err-fragments-clause-opened
returns-in_err-fragments-clause-opened g c = IfOk-from_err _ _ c.from_residual.ensures.0

pub returns-in_err-fragments-clause-said : goal.returns-in_err-fragments-clause-said
returns-in_err-fragments-clause-said g c = IfOk-from_err _ _ c.from_residual.ensures.0

pub returns-in_err-fragments-clause-stay : goal.returns-in_err-fragments-clause-stay
returns-in_err-fragments-clause-stay g c = IfOk-from_err _ _ c.from_residual.ensures.0

pub returns-in_err-fragments-clause-named : goal.returns-in_err-fragments-clause-named
returns-in_err-fragments-clause-named g c = IfOk-from_err _ _ c.from_residual.ensures.0

pub returns-in_err-fragments-clause-found : goal.returns-in_err-fragments-clause-found
returns-in_err-fragments-clause-found g c = IfOk-from_err _ _ c.from_residual.ensures.0

pub returns-in_err-fragment-clause-sixteen : goal.returns-in_err-fragment-clause-sixteen
returns-in_err-fragment-clause-sixteen g c = IfOk-from_err _ _ c.from_residual-in_err-fragment.ensures.0

pub returns-in_err-fragment-clause-length : goal.returns-in_err-fragment-clause-length
returns-in_err-fragment-clause-length g c = IfOk-from_err _ _ c.from_residual-in_err-fragment.ensures.0

pub returns-in_err-fragment-clause-opened : goal.returns-in_err-fragment-clause-opened
returns-in_err-fragment-clause-opened g c = IfOk-from_err _ _ c.from_residual-in_err-fragment.ensures.0

pub returns-in_err-fragment-clause-said : goal.returns-in_err-fragment-clause-said
returns-in_err-fragment-clause-said g c = IfOk-from_err _ _ c.from_residual-in_err-fragment.ensures.0

pub returns-in_err-fragment-clause-stay : goal.returns-in_err-fragment-clause-stay
returns-in_err-fragment-clause-stay g c = IfOk-from_err _ _ c.from_residual-in_err-fragment.ensures.0

pub returns-in_err-fragment-clause-named : goal.returns-in_err-fragment-clause-named
returns-in_err-fragment-clause-named g c = IfOk-from_err _ _ c.from_residual-in_err-fragment.ensures.0

pub returns-in_err-fragment-clause-found : goal.returns-in_err-fragment-clause-found
returns-in_err-fragment-clause-found g c = IfOk-from_err _ _ c.from_residual-in_err-fragment.ensures.0

pub returns-in_err-push-clause-sixteen : goal.returns-in_err-push-clause-sixteen
returns-in_err-push-clause-sixteen g c = IfOk-from_err _ _ c.from_residual-in_err-push.ensures.0

pub returns-in_err-push-clause-length : goal.returns-in_err-push-clause-length
returns-in_err-push-clause-length g c = IfOk-from_err _ _ c.from_residual-in_err-push.ensures.0

pub returns-in_err-push-clause-opened : goal.returns-in_err-push-clause-opened
returns-in_err-push-clause-opened g c = IfOk-from_err _ _ c.from_residual-in_err-push.ensures.0

pub returns-in_err-push-clause-said : goal.returns-in_err-push-clause-said
returns-in_err-push-clause-said g c = IfOk-from_err _ _ c.from_residual-in_err-push.ensures.0

pub returns-in_err-push-clause-stay : goal.returns-in_err-push-clause-stay
returns-in_err-push-clause-stay g c = IfOk-from_err _ _ c.from_residual-in_err-push.ensures.0

pub returns-in_err-push-clause-named : goal.returns-in_err-push-clause-named
returns-in_err-push-clause-named g c = IfOk-from_err _ _ c.from_residual-in_err-push.ensures.0

pub returns-in_err-push-clause-found : goal.returns-in_err-push-clause-found
returns-in_err-push-clause-found g c = IfOk-from_err _ _ c.from_residual-in_err-push.ensures.0
