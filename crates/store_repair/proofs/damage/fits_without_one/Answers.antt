use Rattle.std.proofs.Common.{◌+◌, ◌∙◌, subst, sym, arith}
use Rattle.std.specs.Prelude.{IfSome}
use Rattle.lrc_code.specs.Sets.{is_in}
use Rattle.lrc_code.proofs.PlaceSums.{index_of-lt}
use Rattle.store_repair.specs.Damage.{IsDamaged, IsDamagedBefore, IsFit}
use Rattle.store_repair.proofs.DamageLemmas.{at_end, next_absent, next_clash, next_fit, none_of}
use Rattle.store_repair.proofs.damage.fits_without_one.Goals as goal
use Rattle.store_repair.proofs.damage.fits_without_one.Goals.{then-has+in_ok-fit_without+then-branch+else-is_some, else-has}
use Rattle.store_repair.proofs.damage.fits_without_one.Goals.{then-has+in_ok-fit_without+else-branch}

pub loop-index-preserved : goal.loop-index-preserved
loop-index-preserved g c = λ at are whole.
    let s = c.args.survivors.now in
    let p = c.nth_place-place.result in
    let here = c.nth_place-place.ensures in
    let n = c.loop-index.index in
    let before = c.loop-index.invariant at are whole in
    let after = IsDamagedBefore s.code (is_in s.set) at s.length (n + 1) in
    elim c.if-has.branch [
      | then-has+in_ok-fit_without+then-branch+else-is_some w ↦ subst after (sym w.damaged-is)
          (next_fit s.code (is_in s.set) at s.length n p here (sym c.has.ensures ∙ w.if-has.true)
          (subst (IsFit s.code (is_in s.set) at s.length p) w.if-branch.true (w.in_ok-fit_without.ensures at are whole))
          (subst (IsDamagedBefore s.code (is_in s.set) at s.length n)
          (none_of c.loop-index.damaged (sym w.is_some.ensures ∙ w.if-is_some.false)) before))
      | then-has+in_ok-fit_without+else-branch w ↦ subst after (sym w.damaged-is)
          (next_clash s.code (is_in s.set) at s.length n p here c.loop-index.damaged
          (subst (IsFit s.code (is_in s.set) at s.length p) w.if-branch.false (w.in_ok-fit_without.ensures at are whole)) before)
      | else-has w ↦ subst after (sym w.damaged-is)
          (next_absent s.code (is_in s.set) at s.length n p here c.loop-index.damaged (sym c.has.ensures ∙ w.if-has.false) before)
    ]

pub returns-in-Some : goal.returns-in-Some
returns-in-Some g c = λ at are whole.
    let s = c.args.survivors.now in
    subst (λ d. IfSome d (IsDamaged s.code (is_in s.set) at s.length)) c.in-Some.is
    (at_end s.code (is_in s.set) at s.length c.loop-index.index c.loop-index.damaged (omega arith) (c.loop-index.invariant at are whole))

pub returns-in-None : goal.returns-in-None
returns-in-None g c = λ at are whole q there.
    let s = c.args.survivors.now in
    subst (IsDamagedBefore s.code (is_in s.set) at s.length c.loop-index.index) c.in-None.is (c.loop-index.invariant at are whole) q
    (let lt = index_of-lt q in omega (arith, lt)) there
