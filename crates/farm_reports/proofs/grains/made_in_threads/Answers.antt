use Rattle.std.proofs.Common.{◌≡◌, ◌<◌, ◌∙◌, All, List, Option, Some, None, ℕ, ap, arith, length, map, refl, replicate, subst, sym}
use Rattle.std.proofs.lemmas.List.{get_or-replicate, length-replicate, with_items_is}
use Rattle.std.proofs.lemmas.Result.{IfOk-from_err}
use Rattle.sha2.specs.Sha256.{sha256}
use Rattle.farm_reports.specs.Grains.{AreGrains, AreRight, at_each}
use Rattle.farm_reports.proofs.grains.made_in_threads.Goals as goal

-- only nothing is a copy of nothing
copy_of_none : (IsCopy : Option (List ℕ) → Type 0) → ((digest : List ℕ) → IsCopy (Some digest) → ⊥)
    → (copy : Option (List ℕ)) → IsCopy copy → copy ≡ None
copy_of_none IsCopy other None is = refl
copy_of_none IsCopy other (Some digest) is = absurd (other digest is)

-- where none is made, all that are made are right
none_are_right : (right : List (List ℕ)) (n : ℕ) (digests : List (Option (List ℕ))) → digests ≡ replicate n None → AreRight right digests
none_are_right right n digests is =
    let size = length-replicate {A = Option (List ℕ)} n None in
    subst (AreRight right) (sym is) (λ i within. rw (get_or-replicate {A = Option (List ℕ)} n i None None (omega (arith, within, size))) tt)

pub returns-in_err-places-clause-places : goal.returns-in_err-places-clause-places
returns-in_err-places-clause-places g c = IfOk-from_err c.from_residual.result _ c.from_residual.ensures.0

pub returns-in_err-places-clause-right : goal.returns-in_err-places-clause-right
returns-in_err-places-clause-right g c = IfOk-from_err c.from_residual.result _ c.from_residual.ensures.0

pub at_places-requires : goal.at_places-requires
at_places-requires g c =
    subst (All (λ place. place < length c.args.fragments.now)) (sym c.as_slice.ensures.value) c.in_ok-places.ensures

pub grains_in_threads-requires : goal.grains_in_threads-requires
grains_in_threads-requires g c = c.type_bounds.sync-R

pub returns-clause-right : goal.returns-clause-right
returns-clause-right g c =
    let right = map (λ f. sha256 f.now) c.args.fragments.now in
    let made = c.place_grains.new.digests in
    let items = with_items_is c.in_ok-digests.digests made
    (omega (arith, c.place_grains.ensures.len, ap (λ ds. length ds) c.as_mut_slice.ensures.value, c.in_ok-digests.digests.ok.0)) in
    let ordered = ap (map (λ f. sha256 f.now)) c.as_slice-2.ensures.value ∙ c.in_ok-ordered.ensures
    ∙ ap (λ ps. at_each ps right) (c.as_slice.ensures.value ∙ sym c.as_slice-4.ensures.value) in
    let grains = subst (AreGrains (at_each c.as_slice-4.result.now right)) (sym c.as_slice-3.ensures.value)
    (subst (λ rs. AreGrains rs c.in_ok-slots.slots.items) ordered c.in_ok-slots.ensures) in
    let base = none_are_right right _ c.as_mut_slice.result.now
    (c.as_mut_slice.ensures.value ∙ c.in_ok-digests.ensures.items_if_clones_equal (copy_of_none _ (λ digest other. other))) in
    subst (AreRight right) (sym items) (c.place_grains.ensures.right right grains base)
