use Rattle.std.proofs.Common.{◌+◌, ◌*◌}
use Rattle.lrc_plan.specs.Tree.{form_of}
use Rattle.lrc_plan.proofs.FormLaws.{node_total}
use Rattle.lrc_plan.proofs.tree.both_branches.+evaluate_forked+fn-evaluate_forked-join+arg2+fn-evaluate_forked-join+arg3.Given as goal

abbrev pub decreases-evaluate_forked : goal.decreases-evaluate_forked
decreases-evaluate_forked g l = 2 * node_total (form_of l.tree.now)

abbrev pub decreases-join+arg2 : goal.decreases-join+arg2
decreases-join+arg2 g l = 2 * node_total (form_of l.left.now.value) + 1

abbrev pub decreases-join+arg3 : goal.decreases-join+arg3
decreases-join+arg3 g l = 2 * node_total (form_of l.right.now.value) + 1
