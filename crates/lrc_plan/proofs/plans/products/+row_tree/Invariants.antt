use Rattle.std.proofs.Common.{length}
use Rattle.lrc_plan.proofs.plans.products.+row_tree.Given as goal

abbrev pub decreases-row_tree : goal.decreases-row_tree
decreases-row_tree g l = length l.places.now
