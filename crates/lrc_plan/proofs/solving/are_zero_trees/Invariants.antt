use Rattle.std.proofs.Common.{◌<◌, ℕ, get_or}
use Rattle.lrc_plan.specs.EvaluationParts.{IsZeroTree}
use Rattle.lrc_plan.specs.Tree.{form_of}
use Rattle.lrc_plan.proofs.solving.are_zero_trees.Given as goal

abbrev pub invariant-loop-tree : goal.invariant-loop-tree
invariant-loop-tree g l = (k : ℕ) (d : _) → k < l.tree-index → IsZeroTree l.request (form_of (get_or l.trees k d))
