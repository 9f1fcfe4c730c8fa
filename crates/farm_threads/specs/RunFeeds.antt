-- How a run names the feeds of all racks: it counts them through, four slots to a rack. The field `rack` of its jobs and replies is a
-- feed's slot.
use Rattle.std.specs.Prelude.{ℕ, ◌+◌, ◌*◌, ◌/◌, ◌%◌, List}
use Rattle.farm_orders.specs.declared.orders.Order.{Order}
use Rattle.farm_threads.specs.declared.lists.Lists.{Lists}
use Rattle.farm_threads.specs.declared.lists.Lists.TheVariants.{One, Several}
use Rattle.farm_orders.specs.FedLists.{one_each}

-- the slot of a feed of a rack
unfoldable pub slot_of : ℕ → ℕ → ℕ
slot_of rack feed = rack * 4 + feed

-- the rack of a slot
unfoldable pub slot_rack : ℕ → ℕ
slot_rack slot = slot / 4

-- the feed of a slot, by its number in its rack
unfoldable pub slot_feed : ℕ → ℕ
slot_feed slot = slot % 4

-- one list for each rack, or several
abbrev pub lists_of : Lists → List (List (List Order))
lists_of (One racks) = one_each racks.now
lists_of (Several feeds) = feeds.now
