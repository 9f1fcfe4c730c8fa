use Rattle.std.proofs.Common.{length}
use Rattle.farm_lists.proofs.listed.+has_repeated.Given as goal

abbrev pub decreases-has_repeated : goal.decreases-has_repeated
decreases-has_repeated l = length l.places.now
