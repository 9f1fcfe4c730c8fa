use Rattle.std.proofs.Common.{◌∷◌, ◌<◌, [], length, ap, sym, ◌∙◌, subst, arith, length-append, rules, ◌≡◌}
use Rattle.crossbeam_channel.specs.Claims.{view}
use Rattle.farm_lanes.specs.LaneEnds.{TakeView}
use Rattle.farm_lanes.specs.LaneRecord.{Rises, sender_of, number_of}
use Rattle.list_members.specs.Lists.{Each}
use Rattle.farm_lanes.proofs.Items.{rises_snoc}
use Rattle.farm_lanes.proofs.lane.take_end.TakeEnd.take.Goals as goal

pub invariant_of-self : goal.invariant_of-self
invariant_of-self g c =
    let inv = c.self.invariant in
    let was = c.receive-item.ensures in
    let t = was.taken in (
      was.seated.0,
      ap (λ v. v.puts) t ∙ inv.1,
      omega (
        arith,
        c.saturating_add-self-inside.ensures,
        inv.2,
        ap (λ v. length v.taken) t,
        length-append (view c.self.inside.pass).taken
            (c.receive-item.result ∷ []),
      ),
      ap (λ v. v.parts) t ∙ inv.3,
      subst Rises (sym (ap (λ v. v.taken) t)) (rises_snoc _ _ inv.4 was.rises),
    )

pub returns-clause-taken : goal.returns-clause-taken
returns-clause-taken g c = search rules

pub returns-clause-rises : goal.returns-clause-rises
returns-clause-rises g c =
    let item = c.receive-item.result in
    subst (Each (λ y. sender_of y ≡ sender_of item → number_of y < number_of item)) (ap (λ (e : TakeView _). e.taken) c.self.view_is)
    c.receive-item.ensures.rises
