use Rattle.std.proofs.Common.{rules, ◌∙◌, ◌++◌, ◌∷◌, List, [], map, vec_items, refl, sym, ap, subst, append_assoc}
use Rattle.farm_lanes.specs.LaneEnds.{PutView}
use Rattle.farm_threads.specs.declared.jobs.Job.{Job}
use Rattle.farm_threads.specs.declared.rack_feeders.RackFeeders.{RackFeeders}
use Rattle.farm_core.specs.Ready.{HavePutRacks, as_new}
use Rattle.farm_core.proofs.Joins.{all_own, racks_none, racks_next}
use Rattle.farm_core.proofs.RackEnds.{ends_next}
use Rattle.farm_core.proofs.threads.all.join_racks.Goals as goal

pub loop-rack-init : goal.loop-rack-init
loop-rack-init g c = (
  refl,
  λ _. subst (λ (l : List (PutView Job)). HavePutRacks [] l) (sym c.requires.empty) racks_none,
  λ _. ap (map as_new) c.requires.empty,
  search rules,
  refl,
  search rules,
)

pub close_rack-requires-clause-own : goal.close_rack-requires-clause-own
close_rack-requires-clause-own g c =
    all_own c.in-Some.rack.gate.now c.in-Some.rack.handles.items c.join_feeders.new.given_back.items
    (c.join_feeders.ensures.joined c.if-join_feeders.true) c.in-Some.rack.own

pub loop-rack-preserved-then-join_feeders : goal.loop-rack-preserved-then-join_feeders
loop-rack-preserved-then-join_feeders g c =
    let was = c.loop-rack.invariant in let done = c.loop-rack.yielded in (
      rw append_assoc (was.0 ∙ ap (λ (t : List RackFeeders). done ++ t) c.in-Some.ensures.steps.0),
      (λ all. subst (λ (l : List (PutView Job)). HavePutRacks (done ++ c.in-Some.rack ∷ []) l) (sym c.close_rack.ensures.ends)
          (racks_next done (vec_items c.loop-rack.put_ends) _ c.in-Some.rack c.join_feeders.new.given_back.items (was.1 all)
          (c.join_feeders.ensures.joined c.if-join_feeders.true) c.close_rack.ensures.drawn)),
      (λ all. ends_next done (vec_items c.loop-rack.put_ends) _ c.in-Some.rack c.join_feeders.new.given_back.items (was.2 all)
          (c.join_feeders.ensures.joined c.if-join_feeders.true) c.close_rack.ensures.ends),
      search rules,
      search rules,
      search rules,
    )
