use Rattle.std.proofs.Common.{rules, ◌≡◌, ◌∙◌, ◌++◌, length, List, sym, ap, subst, refl, append_assoc, arith}
use Rattle.std.proofs.lemmas.List.{length_push}
use Rattle.farm_lanes.specs.GateView.{GateId}
use Rattle.farm_core.proofs.Joints.{IsSpending, spend_begins, spend_next, spend_ends}
use Rattle.farm_threads.proofs.Middles.{each_middle}
use Rattle.farm_core.proofs.threads.closing.spend_all.Goals as goal

pub loop-right-init : goal.loop-right-init
loop-right-init c = (refl, c.requires.own.0, c.requires.sound, λ is. spend_begins c.args.gate.now.size c.args.seat.has is, search rules)

pub close-closed-requires : goal.close-closed-requires
close-closed-requires c =
    let was = c.loop-right.invariant in let done = c.loop-right.yielded in record {
      own = (
        was.1,
        each_middle (λ r. r ≡ c.args.gate.now.id) c.args.rights.items done _ c.in-Some.right
            (sym c.into_iter-right-iterator.ensures.into_iter_gives.0
            ∙ (was.0 ∙ ap (λ (t : List GateId). done ++ t) c.in-Some.ensures.steps.0)) c.requires.own.1,
      );
    }

pub loop-right-preserved : goal.loop-right-preserved
loop-right-preserved c =
    let was = c.loop-right.invariant in let done = c.loop-right.yielded in (
      rw append_assoc (was.0 ∙ ap (λ (t : List GateId). done ++ t) c.in-Some.ensures.steps.0),
      c.close-closed.ensures.gate ∙ was.1,
      c.close-closed.ensures.sound,
      λ is. subst (IsSpending c.args.gate.now.size c.args.seat.has c.close-closed.new.seat.has) (sym (length_push done c.in-Some.right))
          (spend_next c.args.gate.now.size c.args.seat.has c.loop-right.seat.has c.close-closed.new.seat.has
          (length done) c.close-closed.result (was.3 is) c.close-closed.ensures.closed),
      (let a = length_push done c.in-Some.right in let b = was.4 in let d = c.in-Some.ensures.steps.1 in omega arith),
    )

pub returns : goal.returns
returns c =
    let was = c.loop-right.invariant in
    λ used made all. spend_ends c.args.gate.now.size c.args.seat.has c.loop-right.seat.has
    (length c.loop-right.yielded) was.2 was.3 used made
    (let a = was.4 in let b = c.in-None.ensures.steps.0 in let d = c.into_iter-right-iterator.ensures.into_iter_gives.1 in
    let e = c.args.rights.ok in omega (arith, all))
