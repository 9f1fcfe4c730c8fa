use Rattle.std.proofs.Common.{arith, List, sym, subst}
use Rattle.farm_lanes.specs.LaneEnds.{PutView}
use Rattle.farm_lanes.specs.LaneRecord.{values}
use Rattle.farm_threads.specs.declared.jobs.Job.{Job}
use Rattle.farm_core.specs.declared.threads.collecting.Desk.{Desk}
use Rattle.farm_threads.specs.Jobs.{HasPutStops}
use Rattle.farm_threads.specs.Settled.{HasCleared, HasJoined}
use Rattle.farm_core.proofs.Clears.{collected_racks}
use Rattle.farm_core.proofs.Starts.{Handle, mapped_length, has_joined}
use Rattle.farm_core.proofs.threads.all.join_all.Goals as goal

pub returns-clause-joined : goal.returns-clause-joined
returns-clause-joined g c = λ room ready started.
    let r = c.join-all.result in let t = c.args.started in
    let js = c.join_workers.new.job_ends.items in let rs = c.join_workers.new.reply_ends.items in
    let cleared = subst (λ (d : Desk). HasCleared d.board.racks d.replies r.all.board r.all.fault r.replies) started.collecting_is
    c.join-all.ensures in
    let working = started.working_are c.if-not-started_all.false in
    let joined = has_joined room ready t.feeding.items c.join_racks-fed_all.new.put_ends.items
    (started.feeding_are c.if-not-started_all.false) (c.join_racks-fed_all.ensures.joined c.if-not-fed_all.false)
    (c.join_racks-fed_all.ensures.ends c.if-not-fed_all.false)
    c.put_stops.result (subst (λ (e : PutView Job). HasPutStops e c.put_stops.result) started.stops_is c.put_stops.ensures.stops)
    t.working.items js rs r.replies r.all.board r.all.fault working c.join_workers.ensures cleared in (
      subst (λ (l : List (PutView Job)). HasJoined r.all.board.racks l js rs r.replies r.all.board r.all.fault)
          (sym c.push_reserved.ensures.items) joined,
      collected_racks room.desk.board.racks r.all.board r.all.fault (values cleared.took) cleared.collected,
      (let a = c.join_workers.ensures.jobs_count in let b =
          mapped_length (λ (h : Handle). h.promise.0.value) t.working.items room.workers.items working in
          let d = ready.some_workers in omega arith),
    )
