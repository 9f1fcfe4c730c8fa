-- The feeds of racks, and why lists are none.
use Rattle.std.specs.Prelude.{ℕ, ◌<◌, ◌≤◌, List, [], ◌∷◌, length, map, ◌≡◌}
use Rattle.std.specs.List.{sum_by}
use Rattle.list_members.specs.Lists.{Each}
use Rattle.farm_orders.specs.declared.orders.Order.{Order}
use Rattle.farm_orders.specs.Limits.{feed_limit, rack_limit}
use Rattle.std.specs.declared.alloc.Global.{Global}
use Rattle.std.specs.declared.vec.Vec.{Vec}
use Rattle.farm_orders.specs.declared.orders.RackList.{RackList}
use Rattle.farm_orders.specs.declared.feeds.FeedsFault.{FeedsFault}
use Rattle.farm_orders.specs.declared.feeds.FeedsFault.TheVariants.{TooManyRacks, BadFeeds}

-- a rack has 1 to 4 feeds
abbrev pub IsFewFeeds : List (List Order) → Type 0
IsFewFeeds feeds = (0 < length feeds) × (length feeds ≤ feed_limit)

-- at most 16 racks, each with 1 to 4 feeds
abbrev pub AreFeeds : List (List (List Order)) → Type 0
AreFeeds racks = (length racks ≤ rack_limit) × Each IsFewFeeds racks

-- each list is the only feed of a rack
abbrev pub one_each : List (List Order) → List (List (List Order))
one_each racks = map (λ list. list ∷ []) racks

-- how many feeds all racks have
abbrev pub all_feeds_of : List (List (List Order)) → ℕ
all_feeds_of racks = sum_by (λ (feeds : List (List Order)). length feeds) racks

-- there are more than 16 racks; or not, and some rack has no feed or more than 4. They are handed back
abbrev pub IsBadFeeds : Vec (Vec RackList Global) Global → FeedsFault → Type 0
IsBadFeeds racks (TooManyRacks back) = (back ≡ racks) × (rack_limit < length racks.items)
IsBadFeeds racks (BadFeeds back) = (back ≡ racks) × (length racks.items ≤ rack_limit)
    × ¬ Each IsFewFeeds (map (λ rack. rack.items) racks.items)
