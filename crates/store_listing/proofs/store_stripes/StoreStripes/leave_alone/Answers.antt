use Rattle.std.proofs.Common.{◌∙◌, ◌<◌, ◌∷◌, ◌++◌, [], ap, arith, filter, List, map, sym, ℕ}
use Rattle.std.proofs.lemmas.List.{map-append, take_all}
use Rattle.lrc_code.specs.declared.places.Place.{Place}
use Rattle.lrc_code.specs.Places.{all_places}
use Rattle.store_listing.specs.Names.{at_places, named}
use Rattle.store_listing.specs.Stripes.{is_alone}
use Rattle.store_listing.proofs.Places.{named_next, unnamed_next}
use Rattle.store_listing.proofs.store_stripes.StoreStripes.leave_alone.Goals as goal
use Rattle.store_listing.proofs.store_stripes.StoreStripes.leave_alone.Goals.{then-is_alone+in_ok-stripe+in_ok-push, else-is_alone}

pub loop-index-preserved : goal.loop-index-preserved
loop-index-preserved c =
    let chosen = is_alone c.args.is_stripe c.args.code c.args.files.now.found in
    let name = c.args.name.now in
    let call : Place → List ℕ × Place = λ p. (name, p) in
    let start = map named c.args.self.now.alone.items in
    let k = c.loop-index.index in
    let place = c.nth_place-place.result in
    let items = c.loop-index.self.alone.items in
    let lt : k < 16 = omega arith in
    let new : List ℕ → List (List ℕ × Place) = λ t. map named items ++ ((t, place) ∷ []) in
    elim c.if-is_alone.branch [
      | then-is_alone+in_ok-stripe+in_ok-push w ↦ (
        named_next chosen call start k place lt c.nth_place-place.ensures (map named items) (map named c.if-is_alone.self.alone.items)
            (sym c.is_alone.ensures ∙ w.if-is_alone.true)
            (ap (λ s. map named s.alone.items) w.self-is ∙ ap (map named) w.in_ok-push.ensures.items ∙ map-append named items _
            ∙ ap new w.in_ok-stripe.ensures.ok) c.loop-index.invariant.0,
        ap (λ s. s.files) w.self-is ∙ c.loop-index.invariant.1,
        ap (λ s. s.described) w.self-is ∙ c.loop-index.invariant.2,
      )
      | else-is_alone w ↦ (
        ap (λ s. map named s.alone.items) w.self-is ∙ unnamed_next chosen call start k place lt c.nth_place-place.ensures
            (map named items) (sym c.is_alone.ensures ∙ w.if-is_alone.false) c.loop-index.invariant.0,
        ap (λ s. s.files) w.self-is ∙ c.loop-index.invariant.1,
        ap (λ s. s.described) w.self-is ∙ c.loop-index.invariant.2,
      )
    ]

pub returns-clause-alone : goal.returns-clause-alone
returns-clause-alone c = c.loop-index.invariant.0
    ∙ ap (λ t. map named c.args.self.now.alone.items ++ at_places c.args.name.now
    (filter (is_alone c.args.is_stripe c.args.code c.args.files.now.found) t)) (take_all c.loop-index.index all_places (omega arith))
