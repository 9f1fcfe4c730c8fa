use Rattle.std.proofs.Common.{◌+◌, List, subst}
use Rattle.farm_lanes.specs.LaneEnds.{PutView, AreNewEnds}
use Rattle.farm_threads.specs.declared.jobs.Job.{Job}
use Rattle.farm_core.proofs.taken.lanes.request_lane.Goals as goal

pub returns : goal.returns
returns c = subst (λ (l : List (PutView Job)). AreNewEnds
    (c.args.feeders + 1) c.args.workers l c.in_ok-puts.takes.items) c.in-Some.ensures.items c.in_ok-puts.ensures
