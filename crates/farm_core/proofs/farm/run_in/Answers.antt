use Rattle.std.proofs.Common.{◌∙◌, refl}
use Rattle.farm_core.proofs.farm.run_in.Goals as goal

pub settle_all-requires-clause-joined : goal.settle_all-requires-clause-joined
settle_all-requires-clause-joined g c κs within =
    (c.in-Some.ensures.joined c.args.room c.requires (record {
      collecting_is = c.in-Ok.ensures;
      working_are = c.start_all-all.ensures.workers;
      feeding_are = c.start_all-all.ensures.racks;
      stops_is = refl;
    })).0

pub settle_all-requires-clause-workers : goal.settle_all-requires-clause-workers
settle_all-requires-clause-workers g c κs within =
    (c.in-Some.ensures.joined c.args.room c.requires (record {
      collecting_is = c.in-Ok.ensures;
      working_are = c.start_all-all.ensures.workers;
      feeding_are = c.start_all-all.ensures.racks;
      stops_is = refl;
    })).2

pub returns-in-Some : goal.returns-in-Some
returns-in-Some g c =
    let all = (c.in-Some.ensures.joined c.args.room c.requires (record {
      collecting_is = c.in-Ok.ensures;
      working_are = c.start_all-all.ensures.workers;
      feeding_are = c.start_all-all.ensures.racks;
      stops_is = refl;
    })) in
    (c.settle_all.ensures.0 ∙ all.1, c.settle_all.ensures.1)
