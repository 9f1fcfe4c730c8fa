use Rattle.std.proofs.Common.{map, take}
use Rattle.lrc_plan.specs.RowTrees.{AreRowTrees}
use Rattle.lrc_plan.specs.Tree.{form_of}
use Rattle.lrc_plan.proofs.plans.planning.check_trees.Given as goal

abbrev pub invariant-loop-row : goal.invariant-loop-row
invariant-loop-row g l = AreRowTrees (take l.row-index l.rows) (map form_of l.checks.items)
