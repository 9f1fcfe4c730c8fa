use Rattle.std.proofs.Common.{arith, ◌+◌, ◌∙◌, length, ap}
use Rattle.std.proofs.lemmas.List.{length_push}
use Rattle.farm_lanes.specs.declared.lane.item.Item.TheVariants.{Value, End}
use Rattle.farm_lanes.specs.LaneEnds.{PutView}
use Rattle.farm_threads.specs.declared.jobs.Job.{Job}
use Rattle.farm_threads.specs.declared.jobs.Job.TheVariants.{Stop}
use Rattle.farm_core.proofs.Stops.{stops_begin, stops_more}
use Rattle.farm_core.proofs.threads.all.put_stops.Goals as goal

pub loop-init : goal.loop-init
loop-init g c = (stops_begin c.args.stops c.requires.unused, ap (λ (u : PutView Job). length u.put) c.requires.unused)

pub loop-preserved : goal.loop-preserved
loop-preserved g c =
    let was = c.loop.invariant in (
      stops_more c.args.stops c.loop.stops c.put.new.self (Value c.loop.stops.sender (length c.loop.stops.put) Stop) was.0 tt c.put.ensures,
      ap (λ (u : PutView Job). length u.put) c.put.ensures ∙ (length_push c.loop.stops.put _ ∙ ap (λ n. n + 1) was.1),
    )

pub returns-clause-stops : goal.returns-clause-stops
returns-clause-stops g c =
    stops_more c.args.stops c.loop.stops c.end.result (End c.loop.stops.sender
    (length c.loop.stops.put)) c.loop.invariant.0 tt c.end.ensures

pub returns-clause-count : goal.returns-clause-count
returns-clause-count g c =
    let longer = ap (λ (u : PutView Job). length u.put) c.end.ensures
    ∙ length_push c.loop.stops.put (End c.loop.stops.sender (length c.loop.stops.put)) in let was = c.loop.invariant.1 in omega arith
