use Rattle.std.proofs.Common.{◌∙◌, ◌+◌, ap, subst, sym}
use Rattle.store_listing.proofs.Places.{IsOwnBefore, cleared_next, left_next, own_at_all, own_at_none}
use Rattle.store_listing.proofs.store_stripes.own_of.Goals as goal
use Rattle.store_listing.proofs.store_stripes.own_of.Goals.{then-not-has, else-not-has}

pub loop-index-preserved : goal.loop-index-preserved
loop-index-preserved c =
    let code = c.args.code in
    let files = c.args.files.now.found in
    let own = c.loop-index.own.found in
    let k = c.loop-index.index in
    let place = c.nth_place.result in
    elim c.if-not-has.branch [
      | then-not-has w ↦ subst (IsOwnBefore (k + 1) code files) (sym (ap (λ o. o.found) w.own-is))
          (cleared_next code files own k place c.nth_place.ensures (sym c.has.ensures ∙ w.if-not-has.true) c.loop-index.invariant)
      | else-not-has w ↦ subst (IsOwnBefore (k + 1) code files) (sym (ap (λ o. o.found) w.own-is))
          (left_next code files own k place c.nth_place.ensures (sym c.has.ensures ∙ w.if-not-has.false) c.loop-index.invariant)
    ]

pub loop-index-init : goal.loop-index-init
loop-index-init c = own_at_none c.args.code c.args.files.now.found

pub returns : goal.returns
returns c = own_at_all c.args.code c.args.files.now.found c.loop-index.own.found c.loop-index.index c.loop-index-test.false
    c.loop-index.invariant
