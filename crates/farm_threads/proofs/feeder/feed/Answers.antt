use Rattle.std.proofs.Common.{arith, ◌≡◌, ◌+◌, ◌≤◌, ◌<◌, ◌∙◌, List, length, true, false, true≢false, refl, ap, sym, subst, Some, None}
use Rattle.farm_lanes.specs.declared.lane.item.Item.TheVariants.{Value}
use Rattle.farm_lanes.specs.declared.gate.record.SeatRecord.{SeatRecord}
use Rattle.farm_orders.specs.declared.orders.Order.{Order}
use Rattle.farm_threads.specs.declared.jobs.Job.TheVariants.{Solve}
use Rattle.farm_orders.specs.Orders.{before_close, HasClose}
use Rattle.farm_threads.proofs.Progress.{close_here, end_here, one_request, has_close, closes_before_end}
use Rattle.farm_threads.proofs.FeedSteps.{IsFeeding, feed_more, feed_ends, right_spent, close_holds, draws_known}
use Rattle.farm_threads.proofs.feeder.feed.Goals as goal
use Rattle.farm_threads.proofs.feeder.feed.Goals.{else-loop-order-test, then-loop-order-test+in-Rebuild+in_default-drawn}

pub returns-in_default-clause-fed : goal.returns-in_default-clause-fed
returns-in_default-clause-fed g c =
    let was = c.loop-order.invariant in let i = c.loop-order.order-index in let orders = c.orders-order-items.result.now in
    let list_is : orders ≡ c.args.list.now = c.orders-order-items.ensures.all in
    let past : length (before_close orders) ≤ i = close_here orders i c.order-item.result (omega arith)
    (sym c.order-item.is ∙ c.in_default.is) was.1 in
    let all : length (before_close orders) ≡ i = (let w = was.0.within in omega arith) in
    feed_ends c.args.gate.now c.args.seat c.args.slot c.args.list.now c.args.jobs i c.loop-order.seat c.close.new.seat c.loop-order.jobs
    c.end.result None c.ok-close.result
    (subst (λ (l : List Order). IsFeeding c.args.gate.now.size.total c.args.seat c.args.slot
    (before_close l) c.args.jobs i c.loop-order.seat c.loop-order.jobs) list_is was.0)
    c.close.ensures.gate c.close.ensures.kept.0 c.close.ensures.kept.2
    (let a = c.close.ensures.kept.0 in let b = c.close.ensures.kept.1 in let e = was.0.draws_are in let f = was.0.share_is in
    let h = c.requires.budget in let j = c.orders-order-items.ensures.limit in
    let k = ap (λ (l : List Order). length l) list_is in omega arith)
    (close_holds c.loop-order.seat.has c.close.new.seat.has c.close.result c.close.ensures.closed)
    (let a = c.close.ensures.kept.1 in omega arith)
    c.end.ensures
    (λ put count. right_spent c.args.gate.now.id c.args.seat.has c.loop-order.seat.has c.close.new.seat.has c.args.list.now c.close.result
    c.ok-close.result (_) (subst HasClose list_is (has_close orders i c.order-item.result (omega arith)
    (sym c.order-item.is ∙ c.in_default.is))) c.ok-close.ensures.value c.close.ensures.closed was.0.kept.0 was.0.kept.1
    (count ∙ (sym all ∙ ap (λ (l : List Order). length (before_close l)) list_is)))

pub loop-order-preserved : goal.loop-order-preserved
loop-order-preserved g c =
    let was = c.loop-order.invariant in let i = c.loop-order.order-index in let orders = c.orders-order-items.result.now in
    let here = sym c.order-item.is ∙ c.in-Rebuild.is in
    let one = one_request orders i c.in-Rebuild.request c.order-item.result (omega arith) here was.1 in (
      feed_more c.args.gate.now.size.total c.args.seat c.args.slot orders c.args.jobs i c.loop-order.seat c.draw-drawn.new.seat
          c.loop-order.jobs c.put.new.self c.in-Ok.number (Solve c.args.slot c.in-Ok.number _) c.in-Rebuild.request c.order-item.result
          (Value (c.loop-order.jobs.sender) (length (c.loop-order.jobs.put)) (Solve c.args.slot c.in-Ok.number _))
          was.0 was.1 (omega arith) here c.draw-drawn.ensures.gate c.in-Ok.ensures.number.0 c.in-Ok.ensures.rises c.in-Ok.ensures.whole refl
          refl refl refl refl c.put.ensures,
      one.1,
      ap (λ n. n + 1) was.2,
    )

pub returns-clause-fed : goal.returns-clause-fed
returns-clause-fed g c =
    let was = c.loop-order.invariant in let i = c.loop-order.order-index in let orders = c.orders-order-items.result.now in
    let list_is : orders ≡ c.args.list.now = c.orders-order-items.ensures.all in
    let inv = subst (λ (l : List Order). IsFeeding c.args.gate.now.size.total c.args.seat c.args.slot
    (before_close l) c.args.jobs i c.loop-order.seat c.loop-order.jobs) list_is was.0 in
    let ends = feed_ends c.args.gate.now c.args.seat c.args.slot c.args.list.now c.args.jobs i c.loop-order.seat c.loop-order-test.seat
    c.loop-order.jobs c.end-2.result (Some c.args.right) None in
    elim c.loop-order-test.branch [
      | else-loop-order-test w ↦
          (let past : length (before_close orders) ≤ i = end_here orders i (omega arith) was.1 in
          let all : length (before_close orders) ≡ i = (let f = was.0.within in omega arith) in
          ends inv (ap (λ s. s.gate) w.seat-is) (ap (λ s. s.has.share) w.seat-is) (ap (λ s. s.has.numbers) w.seat-is)
          (let a = ap (λ s. s.has.draws) w.seat-is in let b = ap (λ s. s.has.share) w.seat-is in let e = was.0.draws_are in
          let f = was.0.share_is in let h = c.requires.budget in let j = c.orders-order-items.ensures.limit in
          let k = ap (λ (l : List Order). length l) list_is in let m = was.0.within in omega arith)
          (ap (λ s. s.has.held) w.seat-is) (draws_known c.loop-order.seat.has.draws c.args.right c.loop-order-test.seat.has 0 false
          (ap (λ s. s.has.knows) w.seat-is ∙ was.0.kept.2) refl (let a = ap (λ s. s.has.draws) w.seat-is in omega arith))
          c.end-2.ensures
          (λ put count. (
            c.requires.own.1,
            refl,
            ap (λ s. s.has.used) w.seat-is ∙ was.0.kept.0,
            ap (λ s. s.has.made) w.seat-is
                ∙ was.0.kept.1,
            λ _. (
              count ∙ (sym all ∙ ap (λ (l : List Order). length
                  (before_close l)) list_is),
              λ (has : HasClose c.args.list.now). absurd
                  (let has' = subst HasClose (sym list_is) has in let less = closes_before_end orders has'.0 has'.1 has'.2 in omega arith),
            ),
          )))
      | then-loop-order-test+in-Rebuild+in_default-drawn w ↦
          (let low : i < length orders = omega (arith, w.loop-order-test.true) in
          let limit = c.orders-order-items.ensures.limit in
          let same_length = ap (λ (l : List Order). length l) list_is in
          let said = (w.in_default-drawn.ensures.refused (λ (e : c.loop-order.seat.has.share ≡ c.loop-order.seat.has.draws). absurd
          (let a = was.0.draws_are in let b = was.0.share_is in let d = c.requires.budget in omega arith))).1 in
          let has = ap (λ s. s.has) w.seat-is ∙ said in
          ends inv (ap (λ s. s.gate) w.seat-is ∙ w.draw-drawn.ensures.gate) (ap (λ (q : SeatRecord). q.share) has)
          (ap (λ (q : SeatRecord). q.numbers) has)
          (let a = ap (λ (q : SeatRecord). q.draws) has in let b = ap (λ (q : SeatRecord). q.share) has in let e = was.0.draws_are in
          let f = was.0.share_is in let h = c.requires.budget in omega arith)
          (ap (λ (q : SeatRecord). q.held) has) (draws_known c.loop-order.seat.has.draws c.args.right c.loop-order-test.seat.has 1 true
          (ap (λ (q : SeatRecord). q.knows) has) refl (let a = ap (λ (q : SeatRecord). q.draws) has in omega arith))
          c.end-2.ensures
          (λ put count. (
            c.requires.own.1,
            refl,
            ap (λ (q : SeatRecord). q.used) has ∙ was.0.kept.0,
            ap (λ (q : SeatRecord). q.made) has
                ∙ was.0.kept.1,
            λ no. absurd (true≢false (sym (ap (λ (q : SeatRecord). q.knows) has) ∙ no)),
          )))
    ]
