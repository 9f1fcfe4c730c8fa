use Rattle.std.proofs.Common.{ap, sym, ◌∙◌, arith, rules}
use Rattle.farm_lanes.specs.GateView.{greatest}
use Rattle.farm_lanes.proofs.Greatest.{greatest-snoc}
use Rattle.farm_lanes.proofs.gate.Gate.draw.Goals as goal

pub invariant_of-seat : goal.invariant_of-seat
invariant_of-seat g c =
    let d = c.raw_draw-found.ensures.drawn.given c.if-found-lt-CLOSED.true in
    let v = c.seat.invariant in
    let draws = ap (λ s. s.draws) d.0 in
    let share = ap (λ s. s.share) d.0 in (
      c.raw_draw-found.ensures.own.1 ∙ v.0,
      omega (arith, draws, share, v.1, c.if-seat-eq0.false),
      omega (arith, v.2),
      sym (ap (λ s. greatest s.numbers) d.0 ∙ greatest-snoc c.seat.inside.raw.me.0.numbers c.raw_draw-found.result d.2),
    )

pub returns-then-found-lt-CLOSED-clause-number : goal.returns-then-found-lt-CLOSED-clause-number
returns-then-found-lt-CLOSED-clause-number g c = search rules

pub returns-then-found-lt-CLOSED-clause-rises : goal.returns-then-found-lt-CLOSED-clause-rises
returns-then-found-lt-CLOSED-clause-rises g c = search rules

pub returns-then-found-lt-CLOSED-clause-whole : goal.returns-then-found-lt-CLOSED-clause-whole
returns-then-found-lt-CLOSED-clause-whole g c = search rules

pub returns-then-found-lt-CLOSED-clause-refused : goal.returns-then-found-lt-CLOSED-clause-refused
returns-then-found-lt-CLOSED-clause-refused g c = search rules
