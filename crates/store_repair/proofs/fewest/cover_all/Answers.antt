use Rattle.std.proofs.Common.{arith, refl}
use Rattle.lrc_code.specs.Sets.{is_in}
use Rattle.store_repair.specs.Losses.{IsCovered}
use Rattle.store_repair.proofs.LossLemmas.{each_more}
use Rattle.store_repair.proofs.fewest.cover_all.Goals as goal

pub loop-place-preserved : goal.loop-place-preserved
loop-place-preserved c =
    each_more (IsCovered c.args.code (is_in c.args.survivors)) c.args.places.now c.loop-place.place-index _ _ c.loop-place-test.true refl
    c.loop-place.invariant (c.is_covered.ensures.covered c.if-not-is_covered.false)

pub returns : goal.returns
returns c = λ on. (
  λ k d lt. c.loop-place.invariant k d (let end = c.loop-place-test.false in omega (arith, lt, end)),
  c.have_checks.ensures.yes on,
)
