use Rattle.std.proofs.Common.{sym, subst, arith}
use Rattle.crossbeam_channel.specs.Claims.{view}
use Rattle.farm_lanes.specs.LaneRecord.{EndsLast}
use Rattle.farm_lanes.proofs.Items.{after_put, ends_last}
use Rattle.farm_lanes.proofs.lane.put_end.PutEnd.end.Goals as goal

pub invariant_of-result : goal.invariant_of-result
invariant_of-result g c =
    let inv = c.self.invariant in
    let t = c.send.ensures.put in
    let a = after_put (view c.self.inside.pass) (view c.send.new.pass) c.self.inside.sender c.self.inside.count _ inv.1 t in
    (c.send.ensures.seated.0, a.0, omega (arith, inv.2), subst EndsLast (sym a.1) (ends_last _ _ inv.3))
