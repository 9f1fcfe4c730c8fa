use Rattle.std.proofs.Common.{refl, ap, ◌∙◌}
use Rattle.sha2.specs.Sha256.{hash_after}
use Rattle.sha256_lanes.specs.Lanes.{lane}
use Rattle.sha256_lanes.proofs.hasher.HasherOfEight.new.Goals as goal

pub returns : goal.returns
unfolding hash_after
returns c l h = (refl, refl, c.of.ensures.taken, ap (lane l) c.of.ensures.state ∙ c.initial_state.ensures l h)
