use Rattle.std.proofs.Common.{◌+◌, ◌∙◌, [], ◌∷◌, ap, sym, subst, Option}
use Rattle.farm_lanes.specs.declared.lane.item.Item.TheVariants.{Value, End}
use Rattle.farm_lanes.specs.LaneEnds.{with_taken}
use Rattle.farm_threads.specs.declared.jobs.Job.TheVariants.{Solve, Stop}
use Rattle.farm_threads.specs.declared.replies.CollectFault.{CollectFault}
use Rattle.farm_threads.specs.Boards.{Held}
use Rattle.farm_threads.specs.Settled.{TookLeft}
use Rattle.farm_core.proofs.Clears.{left_begins, left_next, nothing_more}
use Rattle.farm_core.proofs.settling.take_left.Goals as goal
use Rattle.farm_core.proofs.settling.take_left.Goals.{in-Value-default-default-Solve, in-Value-default-default-Stop, in-End}

pub loop-init : goal.loop-init
loop-init g c = left_begins c.args.jobs.now c.args.all.board c.args.all.fault

pub loop-preserved : goal.loop-preserved
loop-preserved g c =
    let P : Held × Option CollectFault → Type 0 = λ p. TookLeft c.args.jobs.now
    (c.loop.counter + 1) c.args.all.board c.args.all.fault c.take.new.self p.0 p.1 in
    elim c.match-take.branch [
      | in-Value-default-default-Solve w ↦
          (let h = w.in-Value-default-default-Solve in
          subst P (λ i. (sym w.board-is i, sym w.fault-is i))
          (left_next c.args.jobs.now c.loop.jobs c.take.new.self c.loop.counter c.args.all.board c.loop.board w.hand_in-fault.new.board
          c.args.all.fault c.loop.fault w.hand_in-fault.result (Value h.sender h.number' (Solve h.slot h.number h.request))
          (w.reply_to-reply.result ∷ [])
          c.loop.invariant (c.take.ensures.taken ∙ ap (with_taken c.loop.jobs) (h.is ∙ ap (λ v. Value h.sender h.number' v) h.value-is))
          (w.reply_to-reply.ensures, tt) w.hand_in-fault.ensures))
      | in-Value-default-default-Stop w ↦
          (let h = w.in-Value-default-default-Stop in
          subst P (λ i. (sym w.board-is i, sym w.fault-is i))
          (left_next c.args.jobs.now c.loop.jobs c.take.new.self c.loop.counter c.args.all.board c.loop.board c.loop.board c.args.all.fault
          c.loop.fault c.loop.fault (Value h.sender h.number Stop) []
          c.loop.invariant (c.take.ensures.taken ∙ ap (with_taken c.loop.jobs) (h.is ∙ ap (λ v. Value h.sender h.number v) h.value-is)) tt
          (nothing_more c.loop.board c.loop.fault)))
      | in-End w ↦ subst P (λ i. (sym w.board-is i, sym w.fault-is i))
          (left_next c.args.jobs.now c.loop.jobs c.take.new.self c.loop.counter c.args.all.board c.loop.board c.loop.board c.args.all.fault
          c.loop.fault c.loop.fault (End w.in-End.sender w.in-End.number) []
          c.loop.invariant (c.take.ensures.taken ∙ ap (with_taken c.loop.jobs) w.in-End.is) tt (nothing_more c.loop.board c.loop.fault))
    ]
