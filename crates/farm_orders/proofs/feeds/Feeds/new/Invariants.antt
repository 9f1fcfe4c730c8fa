use Rattle.std.proofs.Common.{◌≡◌, ◌<◌, ℕ, Vec, Global}
use mathlib.Core.Option.{some}
use lib.ListN.{get_elem?}
use Rattle.farm_orders.specs.declared.orders.RackList.{RackList}
use Rattle.farm_orders.specs.FedLists.{IsFewFeeds}
use Rattle.farm_orders.proofs.feeds.Feeds.new.Given as goal

-- the racks so far have 1 to 4 feeds
abbrev pub invariant-loop-rack : goal.invariant-loop-rack
invariant-loop-rack l =
    (k : ℕ) (rack : Vec RackList Global) → k < l.rack-index → get_elem? l.rack-items k ≡ some rack → IsFewFeeds rack.items
