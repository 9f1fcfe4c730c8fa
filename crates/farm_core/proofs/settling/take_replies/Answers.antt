use Rattle.std.proofs.Common.{◌+◌, ◌∙◌, ap, sym, subst, Option}
use Rattle.farm_lanes.specs.declared.lane.item.Item.TheVariants.{Value, End}
use Rattle.farm_lanes.specs.LaneEnds.{with_taken}
use Rattle.farm_threads.specs.declared.replies.CollectFault.{CollectFault}
use Rattle.farm_threads.specs.Boards.{Held}
use Rattle.farm_threads.specs.Settled.{TookReplies}
use Rattle.farm_core.proofs.Clears.{replies_next, nothing_more}
use Rattle.farm_core.proofs.settling.take_replies.Goals as goal
use Rattle.farm_core.proofs.settling.take_replies.Goals.{in-Value, in-End}

pub loop-preserved : goal.loop-preserved
loop-preserved g c =
    let P : Held × Option CollectFault → Type 0 = λ p. TookReplies c.args.replies.now
    (c.loop.counter + 1) c.args.all.board c.args.all.fault c.take.new.self p.0 p.1 in
    elim c.match-take.branch [
      | in-Value w ↦ subst P (λ i. (sym w.board-is i, sym w.fault-is i))
          (replies_next c.args.replies.now c.loop.replies c.take.new.self c.loop.counter c.args.all.board c.loop.board
          w.hand_in-fault.new.board c.args.all.fault c.loop.fault w.hand_in-fault.result
          (Value w.in-Value.sender w.in-Value.number w.in-Value.value)
          c.loop.invariant (c.take.ensures.taken ∙ ap (with_taken c.loop.replies) w.in-Value.is) w.hand_in-fault.ensures)
      | in-End w ↦ subst P (λ i. (sym w.board-is i, sym w.fault-is i))
          (replies_next c.args.replies.now c.loop.replies c.take.new.self c.loop.counter c.args.all.board c.loop.board c.loop.board
          c.args.all.fault c.loop.fault c.loop.fault (End w.in-End.sender w.in-End.number)
          c.loop.invariant (c.take.ensures.taken ∙ ap (with_taken c.loop.replies) w.in-End.is) (nothing_more c.loop.board c.loop.fault))
    ]
