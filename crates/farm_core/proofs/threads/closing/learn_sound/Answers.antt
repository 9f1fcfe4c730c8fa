use Rattle.std.proofs.Common.{◌∷◌, [], sym, subst}
use Rattle.farm_lanes.specs.GateView.{SeatView}
use Rattle.farm_lanes.specs.SeatChanges.{joined}
use Rattle.farm_threads.specs.Feed.{IsJoint}
use Rattle.farm_core.proofs.Joints.{joint_look}
use Rattle.farm_core.proofs.threads.closing.learn_sound.Goals as goal

pub returns-clause-same : goal.returns-clause-same
returns-clause-same c =
    let P : SeatView × SeatView → Type 0 = λ p. IsJoint (joined p.0.has p.1.has) (c.args.seat.has ∷ []) in
    subst (λ (s : SeatView). IsJoint s.has (c.args.seat.has ∷ [])) (sym c.join.ensures.joined)
    (subst P (λ i. (sym c.split-seat.ensures.first i, sym c.split-seat.ensures.second i)) (joint_look c.args.seat.has))
