use Rattle.std.proofs.Common.{◌∙◌, ◌≡◌, refl, sym, true}
use Rattle.lrc_code.specs.Sets.{is_in}
use Rattle.store_repair.proofs.LossLemmas.{each_more}
use Rattle.store_repair.proofs.fewest.are_among.Goals as goal

pub loop-place-preserved : goal.loop-place-preserved
loop-place-preserved c =
    each_more (λ p. is_in c.args.set p ≡ true) c.args.places.now c.loop-place.place-index _ _ c.loop-place-test.true refl
    c.loop-place.invariant (sym c.has.ensures ∙ c.if-not-has.false)
