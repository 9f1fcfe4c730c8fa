use Rattle.std.proofs.Common.{refl, sym, subst}
use Rattle.farm_lanes.specs.LaneEnds.{IsUnusedPut, IsUnusedTake}
use Rattle.farm_lanes.proofs.Opens.{popped_put, popped_take}
use Rattle.farm_tests.proofs.farm.jobs.two_to_two.Goals as goal

pub returns : goal.returns
returns g c =
    let o = rw c.expect-puts.ensures at c.«open».ensures.ends in
    let is_second = rw c.expect-second.ensures at c.pop.ensures.items in
    let is_first = rw c.expect-first.ensures at c.pop-2.ensures.items in
    let is_other = rw c.expect-other.ensures at c.pop-3.ensures.items in
    let is_taker = rw c.expect-taker.ensures at c.pop-4.ensures.items in
    let q = popped_put o.lane 1 c.expect-puts.result.0.items c.pop.new.self.items c.expect-second.result o.put_ends is_second in
    let p = popped_put o.lane 0 c.pop.new.self.items c.pop-2.new.self.items c.expect-first.result q.1 is_first in
    let u = popped_take o.lane 1 c.expect-puts.result.1.items c.pop-3.new.self.items c.expect-other.result o.take_ends is_other in
    let t = popped_take o.lane 0 c.pop-3.new.self.items c.pop-4.new.self.items c.expect-taker.result u.1 is_taker in (
      subst IsUnusedPut (sym p.0) refl,
      subst IsUnusedPut (sym q.0) refl,
      subst IsUnusedTake (sym t.0) refl,
      subst IsUnusedTake (sym u.0) refl,
    )
