use Rattle.std.proofs.Common.{◌<◌, ℕ, All, arith, length, subst, sym}
use Rattle.std.proofs.lemmas.List.Elements.{All-push}
use Rattle.std.proofs.lemmas.List.Sorted.{All-permutation}
use Rattle.std.proofs.lemmas.Result.{IfOk-from_err}
use Rattle.farm_reports.proofs.grains.places_by_length.Goals as goal

pub returns-in_err-places : goal.returns-in_err-places
returns-in_err-places c = IfOk-from_err c.from_residual.result _ c.from_residual.ensures.0

pub loop-place-init : goal.loop-place-init
loop-place-init c =
    subst (All (λ place. place < length c.args.fragments.now)) (sym c.in_ok-places.ensures.items) (λ k d none. absurd (omega (arith, none)))

pub returns-in_err-push : goal.returns-in_err-push
returns-in_err-push c = IfOk-from_err c.from_residual-in_err-push.result _ c.from_residual-in_err-push.ensures.0

pub loop-place-preserved : goal.loop-place-preserved
loop-place-preserved c =
    let P : ℕ → Type 0 = λ place. place < length c.args.fragments.now in
    subst (All P) (sym c.in_ok-push.ensures.items)
    (All-push P c.loop-place.places.items c.loop-place.place c.loop-place.invariant c.loop-place-test.true)

pub returns : goal.returns
returns c =
    All-permutation (λ place. place < length c.args.fragments.now) _ _ c.sort_unstable_by_key.ensures.permutation c.loop-place.invariant
