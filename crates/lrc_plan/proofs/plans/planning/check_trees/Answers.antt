use Rattle.std.proofs.Common.{arith, map, sym, subst}
use Rattle.std.proofs.lemmas.List.{take_more}
use Rattle.lrc_plan.specs.RowTrees.{AreRowTrees}
use Rattle.lrc_plan.specs.Tree.{form_of}
use Rattle.lrc_plan.proofs.plans.planning.check_trees.Goals as goal

pub loop-row-preserved : goal.loop-row-preserved
loop-row-preserved g c =
    subst (λ rows. AreRowTrees rows (map form_of c.push_tree.new.checks.items))
    (sym (take_more c.args.rows.now c.loop-row.row-index _ (omega arith)))
    (c.in_ok-push_tree.ensures _ c.loop-row.invariant)
