use Rattle.std.proofs.Common.{ℕ, List}
use Rattle.lrc_code.specs.Sets.{is_in}
use Rattle.lrc_plan.specs.Stripes.{AreWhole}
use Rattle.store_repair.specs.Damage.{IsDamagedBefore}
use Rattle.stores.specs.Shown.{AreShown}
use Rattle.store_repair.proofs.damage.fits_without_one.Given as goal

abbrev pub invariant-loop-index : goal.invariant-loop-index
invariant-loop-index g l =
    let s = l.survivors in
    (at : List (List ℕ)) → AreShown g.F.Fragment.shown s.fragments.now at → AreWhole s.code (is_in s.set) at s.length
    → IsDamagedBefore s.code (is_in s.set) at s.length l.index l.damaged
