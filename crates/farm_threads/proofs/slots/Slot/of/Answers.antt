use Rattle.std.proofs.Common.{refl}
use Rattle.farm_threads.specs.RunFeeds.{slot_of}
use Rattle.farm_threads.proofs.slots.Slot.of.Goals as goal

pub returns : goal.returns
unfolding slot_of
returns c = refl
