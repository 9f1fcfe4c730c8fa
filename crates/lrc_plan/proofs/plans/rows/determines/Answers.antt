use Rattle.std.proofs.Common.{◌≡◌, ◌∙◌, ◌<◌, ℕ, List, ap, arith, false, get_or, length, subst, sym, slice_index}
use Rattle.std.proofs.lemmas.Bool.{false≢true}
use Rattle.std.proofs.lemmas.List.{get_or_default, get_or_read}
use borrow.Author.Count.{below_more}
use Rattle.lrc_code.specs.declared.places.Place.{Place}
use Rattle.lrc_code.specs.declared.places.Place.TheVariants.{X0}
use Rattle.lrc_code.specs.Places.{index_of, same_place}
use Rattle.lrc_code.specs.Sets.{is_in}
use Rattle.lrc_code.proofs.PlaceSums.{at_places, same_place-comm, same_place-sym}
use Rattle.lrc_plan.proofs.PlaceTests.{same_place-ne_true, same_place-ne_false}
use Rattle.lrc_plan.proofs.plans.rows.determines.Goals as goal
use Rattle.lrc_plan.proofs.plans.rows.determines.Goals.{else-byte-ne0-via-then-byte-ne0+then-not-has+else-ne}
use Rattle.lrc_plan.proofs.plans.rows.determines.Goals.{else-byte-ne0-via-then-byte-ne0+else-not-has, else-byte-ne0-via-else-byte-ne0}

-- what was read is the coefficient of the place
read_at : (row : List ℕ) (i j x y : ℕ) → i ≡ j → i < length row → y ≡ get_or row i y → x ≡ get_or row i y → x ≡ slice_index row j
read_at row i j x y same lt is read = read ∙ (sym is ∙ (get_or_read row i y lt is 0 ∙ ap (λ n. get_or row n 0) same))

pub returns-then-ne-clause-no : goal.returns-then-ne-clause-no
returns-then-ne-clause-no c = λ _.
    let place = get_or c.args.places.now c.loop-place.place-index X0 in (
      place,
      sym c.has.ensures ∙ c.if-not-has.true,
      same_place-sym _ _ (same_place-ne_true _ _ _ c.ne.ensures c.if-ne.true),
      λ z. c.if-byte-ne0.true (read_at _ _ _ _ _ c.index.ensures.value (omega arith) c.index-row-index.is c.byte.ensures ∙ z),
    )

pub returns-clause-yes : goal.returns-clause-yes
returns-clause-yes c =
    let IsClear : Place → Type 0 = λ p. is_in c.args.survivors p ≡ false → same_place c.args.target p ≡ false
    → slice_index c.args.row.now (index_of p) ≡ 0 in
    at_places IsClear (λ k d lt.
    subst (λ ps. IsClear (get_or ps k d)) c.requires
    (c.loop-place.invariant k d (omega (arith, lt, ap length c.requires))))

pub loop-place-preserved : goal.loop-place-preserved
loop-place-preserved c =
    let places = c.args.places.now in
    let i = c.loop-place.place-index in
    let IsClear : Place → Type 0 = λ p. is_in c.args.survivors p ≡ false → same_place c.args.target p ≡ false
    → slice_index c.args.row.now (index_of p) ≡ 0 in
    let here : IsClear (get_or places i X0) = elim c.else-byte-ne0.branch [
      | else-byte-ne0-via-then-byte-ne0+then-not-has+else-ne w ↦ λ lost other. absurd
          (false≢true (sym other ∙ (same_place-comm _ _ ∙ same_place-ne_false _ _ _ w.ne.ensures w.if-ne.false)))
      | else-byte-ne0-via-then-byte-ne0+else-not-has w ↦ λ lost other. absurd
          (false≢true (sym lost ∙ (sym w.has.ensures ∙ w.if-not-has.false)))
      | else-byte-ne0-via-else-byte-ne0 w ↦ λ lost other.
          sym (read_at _ _ _ _ _ c.index.ensures.value (omega arith) c.index-row-index.is c.byte.ensures) ∙ w.if-byte-ne0.false
    ] in
    λ k d lt. below_more (λ n. (e : Place) → IsClear (get_or places n e)) i (λ n less e. c.loop-place.invariant n e less)
    (λ e. subst IsClear (get_or_default places i X0 e c.loop-place-test.true) here) k lt d
