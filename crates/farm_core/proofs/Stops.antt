-- What asks for no reply.
use Rattle.std.proofs.Common.{◌≡◌, [], ◌∷◌, ◌++◌, sym, ap, ◌∙◌}
use mathlib.Core.Option.{some-ne-none}
use Rattle.farm_lanes.specs.declared.lane.item.Item.{Item}
use Rattle.farm_lanes.specs.LaneEnds.{PutView, with_put, IsUnusedPut}
use Rattle.list_members.proofs.Lists.{each_snoc}
use Rattle.farm_threads.specs.declared.jobs.Job.{Job}
use Rattle.farm_threads.specs.Jobs.{AsksNothing, HasPutStops}

pub stops_begin : (stops : PutView Job) → IsUnusedPut stops → HasPutStops stops stops
stops_begin stops unused = record { put = []; stops_is = unused; nothing = λ k x at. absurd (some-ne-none x (sym at)) }

pub stops_more : (stops e e' : PutView Job) (x : Item Job) → HasPutStops stops e → AsksNothing x → e' ≡ with_put e x → HasPutStops stops e'
stops_more stops e e' x was asks more = record {
  put = was.put ++ x ∷ [];
  stops_is = more ∙ ap (λ (u : PutView Job). with_put u x) was.stops_is;
  nothing = each_snoc AsksNothing was.put x was.nothing asks;
}
