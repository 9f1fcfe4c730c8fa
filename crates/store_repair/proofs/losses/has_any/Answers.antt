use Rattle.std.proofs.Common.{◌≡◌, ◌∙◌, arith, false, sym}
use Rattle.lrc_code.specs.Sets.{is_in}
use Rattle.lrc_code.proofs.PlaceSums.{index_of-lt}
use Rattle.store_repair.proofs.SuspectLemmas.{before_next}
use Rattle.store_repair.proofs.losses.has_any.Goals as goal

pub loop-index-preserved : goal.loop-index-preserved
loop-index-preserved c = before_next (λ q. is_in c.args.survivors q ≡ false) c.loop-index.index c.nth_place.result c.nth_place.ensures
    c.loop-index.invariant (sym c.has.ensures ∙ c.if-has.false)

pub returns-clause-none : goal.returns-clause-none
returns-clause-none c = λ off q. c.loop-index.invariant q (let lt = index_of-lt q in omega (arith, lt))
