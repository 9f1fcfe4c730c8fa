use Rattle.std.proofs.Common.{ap, sym, ◌∙◌, arith}
use Rattle.farm_lanes.specs.Counting.{times}
use Rattle.farm_lanes.specs.GateView.{greatest, greater_of}
use Rattle.farm_lanes.proofs.Greatest.{greatest-append}
use Rattle.farm_lanes.proofs.Numbers.{times-append}
use Rattle.farm_lanes.proofs.gate.Gate.join.Goals as goal

pub returns-clause-disjoint : goal.returns-clause-disjoint
returns-clause-disjoint g c x =
    let m = ap (λ m. m.0) (c.raw_look.ensures.own.1 ∙ c.raw_join.ensures.own.1) in
    let s = c.raw_look.ensures.sound.distinct x in
    let e = ap (λ s. times x s.numbers) m in
    let f = times-append x c.first.inside.raw.me.0.numbers c.second.inside.raw.me.0.numbers in
    rw (sym c.first.view_is, sym c.second.view_is) (omega arith)

pub invariant_of-result : goal.invariant_of-result
invariant_of-result g c =
    let both = c.raw_look.ensures.own.1 ∙ c.raw_join.ensures.own.1 in
    let m = ap (λ m. m.0) both in
    let v = c.first.invariant in
    let w = c.second.invariant in
    let draws = ap (λ s. s.draws) m in
    let share = ap (λ s. s.share) m in
    let within = c.raw_look.ensures.sound.share_within in (
      ap (λ m. m.1) both ∙ v.0,
      omega (arith, draws, share, v.1, w.1),
      omega (arith, draws, share, v.1, w.1, within, c.self.invariant.1),
      c.greater.ensures ∙ (ap (λ a. greater_of a c.second.inside.last) v.3
          ∙ (ap (λ b. greater_of (greatest c.first.inside.raw.me.0.numbers) b) w.3
          ∙ (sym (greatest-append c.first.inside.raw.me.0.numbers c.second.inside.raw.me.0.numbers)
          ∙ sym (ap (λ s. greatest s.numbers) m)))),
    )
