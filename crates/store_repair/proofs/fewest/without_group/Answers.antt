use Rattle.std.proofs.Common.{◌∙◌, All, ap, subst, sym}
use Rattle.lrc_code.specs.Sets.{is_in}
use Rattle.store_repair.specs.Damage.{IsDetermined}
use Rattle.store_repair.proofs.SuspectLemmas.{in_without}
use Rattle.store_repair.proofs.fewest.without_group.Goals as goal
use Rattle.store_repair.proofs.fewest.without_group.Goals.{then-has+then-eq+then-are_enough, then-has+then-eq+else-are_enough}
use Rattle.store_repair.proofs.fewest.without_group.Goals.{else-has}

pub loop-place-preserved : goal.loop-place-preserved
loop-place-preserved c =
    let code = c.args.code in
    let so = c.loop-place.invariant in
    let places = c.args.places.now in
    elim c.if-has.branch [
      | then-has+then-eq+then-are_enough w ↦ record {
        own = λ p h. so.own p
            (in_without code (is_in c.loop-place.left) _ p
            (sym (w.without-fewer.ensures p) ∙ (ap (λ set. is_in set p) (sym w.left-is) ∙ h))).1;
        enough = λ all. subst (λ set. All (IsDetermined code (is_in set)) places) (sym w.left-is)
            (w.are_enough.ensures w.if-are_enough.true);
      }
      | then-has+then-eq+else-are_enough w ↦ record {
        own = λ p h. so.own p (ap (λ set. is_in set p) (sym w.left-is) ∙ h);
        enough = λ all. subst (λ set. All (IsDetermined code (is_in set)) places) (sym w.left-is) (so.enough all);
      }
      | else-has w ↦ record {
        own = λ p h. so.own p (ap (λ set. is_in set p) (sym w.left-is) ∙ h);
        enough = λ all. subst (λ set. All (IsDetermined code (is_in set)) places) (sym w.left-is) (so.enough all);
      }
    ]
