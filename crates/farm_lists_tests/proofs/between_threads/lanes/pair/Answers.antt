use Rattle.std.proofs.Common.{ap, sym, ◌∙◌}
use Rattle.farm_lanes.specs.LaneEnds.{LaneName, PutView, new_put, new_take}
use Rattle.farm_lanes.proofs.Opens.{popped_put, popped_take}
use Rattle.farm_lists_tests.proofs.between_threads.lanes.pair.Goals as goal

pub returns : goal.returns
returns g c =
    let o = rw c.expect-puts.ensures at c.«open».ensures.ends in
    let put_last = rw c.expect-put.ensures at c.pop.ensures.items in
    let take_last = rw c.expect-take.ensures at c.pop-2.ensures.items in
    let p = popped_put o.lane 0 c.expect-puts.result.0.items c.pop.new.self.items c.expect-put.result o.put_ends put_last in
    let t = popped_take o.lane 0 c.expect-puts.result.1.items c.pop-2.new.self.items c.expect-take.result o.take_ends take_last in
    let l = ap (λ (e : PutView _). e.lane) p.0 in
    (p.0 ∙ ap (λ (q : LaneName _). new_put q 0) (sym l), t.0 ∙ ap new_take (sym l), ap (λ (q : LaneName _). q.ends) l ∙ o.ends)
