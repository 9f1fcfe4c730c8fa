use Rattle.std.proofs.Common.{refl}
use Rattle.farm_threads.specs.RunFeeds.{slot_feed}
use Rattle.farm_threads.proofs.slots.Slot.feed.Goals as goal

pub returns : goal.returns
unfolding slot_feed
returns c = refl
