use Rattle.std.proofs.Common.{length}
use Rattle.lrc_plan.proofs.plans.products.+from_first_term.Given as goal

abbrev pub decreases-from_first_term : goal.decreases-from_first_term
decreases-from_first_term l = length l.places.now
