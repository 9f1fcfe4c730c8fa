use Rattle.std.proofs.Common.{refl}
use Rattle.lrc_code.specs.Sets.{is_in}
use Rattle.store_repair.specs.Damage.{IsDetermined}
use Rattle.store_repair.proofs.LossLemmas.{each_more}
use Rattle.store_repair.proofs.fewest.determine_all.Goals as goal

pub loop-place-preserved : goal.loop-place-preserved
loop-place-preserved c =
    each_more (IsDetermined c.args.code (is_in c.args.set)) c.args.places.now c.loop-place.place-index _ _ c.loop-place-test.true refl
    c.loop-place.invariant (c.is_determined.ensures.yes c.if-not-is_determined.false)
