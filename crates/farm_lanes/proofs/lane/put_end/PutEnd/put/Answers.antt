use Rattle.std.proofs.Common.{◌≡◌, length, ap, sym, subst, arith, refl, false, rules}
use Rattle.crossbeam_channel.specs.Claims.{view}
use Rattle.farm_lanes.specs.LaneEnds.{PutView}
use Rattle.farm_lanes.specs.LaneRecord.{is_end}
use Rattle.list_members.specs.Lists.{Each}
use Rattle.farm_lanes.proofs.Items.{after_put}
use Rattle.list_members.proofs.Lists.{each_snoc}
use Rattle.farm_lanes.proofs.lane.put_end.PutEnd.put.Goals as goal

pub invariant_of-self : goal.invariant_of-self
invariant_of-self g c =
    let inv = c.self.invariant in
    let t = c.send.ensures.put in
    let a = after_put (view c.self.inside.pass) (view c.send.new.pass) c.self.inside.sender c.self.inside.count _ inv.1 t in (
      c.send.ensures.seated.0,
      a.0,
      omega (arith, inv.1.counted, c.requires, ap (λ (e : PutView _). length e.put) c.self.view_is),
      subst (Each (λ x. is_end x ≡ false)) (sym a.1) (each_snoc (λ x. is_end x ≡ false) _ _ inv.3 refl),
    )

pub returns : goal.returns
returns g c = search rules
