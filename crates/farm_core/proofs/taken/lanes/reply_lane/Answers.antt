use Rattle.std.proofs.Common.{List, subst}
use Rattle.farm_lanes.specs.LaneEnds.{TakeView, AreNewEnds}
use Rattle.farm_threads.specs.Replies.{Replied}
use Rattle.farm_core.proofs.Rooms.{only_last}
use Rattle.farm_core.proofs.taken.lanes.reply_lane.Goals as goal

pub returns : goal.returns
returns c =
    let new = c.in_ok-puts.ensures in
    subst (λ (l : List (TakeView Replied)). AreNewEnds c.args.workers 1 c.in_ok-puts.puts.items l)
    (only_last c.in_ok-puts.takes.items c.pop.new.self.items c.in-Some.last c.in-Some.ensures.items new.take_ends.count) new
