use Rattle.std.proofs.Common.{refl}
use Rattle.farm_threads.specs.RunFeeds.{slot_rack}
use Rattle.farm_threads.proofs.slots.Slot.rack.Goals as goal

pub returns : goal.returns
unfolding slot_rack
returns c = refl
