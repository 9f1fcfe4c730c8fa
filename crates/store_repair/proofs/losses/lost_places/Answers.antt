use Rattle.std.proofs.Common.{◌∙◌, ◌+◌, ap, sym, subst, List}
use Rattle.lrc_code.specs.declared.places.Place.{Place}
use Rattle.lrc_code.specs.Sets.{is_in}
use Rattle.store_repair.proofs.LostLemmas.{AreSorted, sorted_determined, sorted_other, sorted_several}
use Rattle.std.proofs.lemmas.Result.{IfOk-from_err}
use Rattle.store_repair.proofs.losses.lost_places.Goals as goal
use Rattle.store_repair.proofs.losses.lost_places.Goals.{then-is_lost+then-is_given+in_ok-push, then-is_lost+else-is_given+in_ok-push-2}
use Rattle.store_repair.proofs.losses.lost_places.Goals.{else-is_lost}

pub loop-index-preserved : goal.loop-index-preserved
loop-index-preserved c =
    let code = c.args.code in
    let survives = is_in c.args.survivors in
    let among = is_in c.args.among in
    let n = c.loop-index.index in
    let p = c.nth_place-place.result in
    let here = c.nth_place-place.ensures in
    let ds = c.loop-index.determined.items in
    let vs = c.loop-index.several.items in
    let so = c.loop-index.invariant in
    let After = λ (a b : List Place). AreSorted code survives among (n + 1) a b in
    elim c.if-is_lost.branch [
      | then-is_lost+then-is_given+in_ok-push w ↦ (
          let first = ap (λ v. v.items) w.determined-is ∙ w.in_ok-push.ensures.items in
          let second = ap (λ v. v.items) w.several-is in
          subst (λ a. After a c.if-is_lost.several.items) (sym first) (subst (After _) (sym second)
          (sorted_determined code survives among n ds vs p here so (c.is_lost.ensures.lost w.if-is_lost.true)
          (w.is_given.ensures.some w.if-is_given.true) (w.is_given.ensures.yes w.if-is_given.true))))
      | then-is_lost+else-is_given+in_ok-push-2 w ↦ (
          let first = ap (λ v. v.items) w.determined-is in
          let second = ap (λ v. v.items) w.several-is ∙ w.in_ok-push-2.ensures.items in
          let lost = c.is_lost.ensures.lost w.if-is_lost.true in
          subst (λ a. After a c.if-is_lost.several.items) (sym first) (subst (After _) (sym second)
          (sorted_several code survives among n ds vs p here so lost
          (λ any. w.is_given.ensures.no w.if-is_given.false any lost.0 lost.1))))
      | else-is_lost w ↦ (
          let first = ap (λ v. v.items) w.determined-is in
          let second = ap (λ v. v.items) w.several-is in
          subst (λ a. After a c.if-is_lost.several.items) (sym first) (subst (After _) (sym second)
          (sorted_other code survives among n ds vs p here so (c.is_lost.ensures.other w.if-is_lost.false))))
    ]

pub returns-in_err-push-clause-determined : goal.returns-in_err-push-clause-determined
returns-in_err-push-clause-determined c = IfOk-from_err _ _ c.from_residual.ensures.0

pub returns-in_err-push-clause-apart : goal.returns-in_err-push-clause-apart
returns-in_err-push-clause-apart c = IfOk-from_err _ _ c.from_residual.ensures.0

pub returns-in_err-push-clause-used : goal.returns-in_err-push-clause-used
returns-in_err-push-clause-used c = IfOk-from_err _ _ c.from_residual.ensures.0

pub returns-in_err-push-clause-several : goal.returns-in_err-push-clause-several
returns-in_err-push-clause-several c = IfOk-from_err _ _ c.from_residual.ensures.0

pub returns-in_err-push-clause-given : goal.returns-in_err-push-clause-given
returns-in_err-push-clause-given c = IfOk-from_err _ _ c.from_residual.ensures.0

pub returns-in_err-push-clause-differ : goal.returns-in_err-push-clause-differ
returns-in_err-push-clause-differ c = IfOk-from_err _ _ c.from_residual.ensures.0

pub returns-in_err-push-clause-all : goal.returns-in_err-push-clause-all
returns-in_err-push-clause-all c = IfOk-from_err _ _ c.from_residual.ensures.0

pub returns-in_err-push-2-clause-determined : goal.returns-in_err-push-2-clause-determined
returns-in_err-push-2-clause-determined c = IfOk-from_err _ _ c.from_residual-in_err-push-2.ensures.0

pub returns-in_err-push-2-clause-apart : goal.returns-in_err-push-2-clause-apart
returns-in_err-push-2-clause-apart c = IfOk-from_err _ _ c.from_residual-in_err-push-2.ensures.0

pub returns-in_err-push-2-clause-used : goal.returns-in_err-push-2-clause-used
returns-in_err-push-2-clause-used c = IfOk-from_err _ _ c.from_residual-in_err-push-2.ensures.0

pub returns-in_err-push-2-clause-several : goal.returns-in_err-push-2-clause-several
returns-in_err-push-2-clause-several c = IfOk-from_err _ _ c.from_residual-in_err-push-2.ensures.0

pub returns-in_err-push-2-clause-given : goal.returns-in_err-push-2-clause-given
returns-in_err-push-2-clause-given c = IfOk-from_err _ _ c.from_residual-in_err-push-2.ensures.0

pub returns-in_err-push-2-clause-differ : goal.returns-in_err-push-2-clause-differ
returns-in_err-push-2-clause-differ c = IfOk-from_err _ _ c.from_residual-in_err-push-2.ensures.0

pub returns-in_err-push-2-clause-all : goal.returns-in_err-push-2-clause-all
returns-in_err-push-2-clause-all c = IfOk-from_err _ _ c.from_residual-in_err-push-2.ensures.0

pub returns-clause-determined : goal.returns-clause-determined
returns-clause-determined c = c.loop-index.invariant.determined

pub returns-clause-apart : goal.returns-clause-apart
returns-clause-apart c = c.loop-index.invariant.apart

pub returns-clause-used : goal.returns-clause-used
returns-clause-used c = c.loop-index.invariant.used

pub returns-clause-several : goal.returns-clause-several
returns-clause-several c = c.loop-index.invariant.several

pub returns-clause-given : goal.returns-clause-given
returns-clause-given c = c.loop-index.invariant.given

pub returns-clause-differ : goal.returns-clause-differ
returns-clause-differ c = c.loop-index.invariant.differ
