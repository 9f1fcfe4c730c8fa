use Rattle.std.proofs.Common.{◌≡◌, ◌≤◌, ◌+◌, ◌*◌, All, Global, List, Some, Vec, take, map, length}
use Rattle.farm_orders.specs.FedLists.{IsFewFeeds}
use Rattle.farm_orders.specs.Orders.{before_close}
use Rattle.farm_orders.specs.declared.orders.RackList.{RackList}
use Rattle.farm_shelves.specs.Files.{Files}
use Rattle.farm_lists.specs.Requests.{read_of}
use Rattle.farm_reading.specs.Reading.{listed_counts}
use Rattle.farm_reading.specs.Reading.{AreAllReads, Reads, all_failures, all_read, orders_all}
use Rattle.farm_reading.proofs.fragments.read_feeds.Given as goal

abbrev pub invariant-loop-rack : goal.invariant-loop-rack
invariant-loop-rack g l =
    (reads : List (List (List Reads)))
    × AreAllReads (take l.rack l.racks) reads
    × (g.I.Shelf.files l.input ≡ g.I.Shelf.files l.fn.input)
    × (g.I.Shelf.failed l.input ≡ g.I.Shelf.failed l.fn.input + all_failures reads)
    × (g.I.Shelf.failed l.input ≤ g.I.Shelf.failed l.fn.input + 245760 * l.rack)
    × All (λ (rack : Vec RackList Global). IsFewFeeds rack.items) l.lists.items
    × (map (λ rack. map (λ os. length (before_close os)) rack.items) l.lists.items ≡ listed_counts (take l.rack l.racks))
    × (map (λ rack. map (λ rs. length rs.items) rack.items) l.read.items ≡ listed_counts (take l.rack l.racks))
    × ((there : Files) → g.I.Shelf.files l.fn.input ≡ Some there
    → (map (λ rack. rack.items) l.lists.items ≡ orders_all there (take l.rack l.racks) reads)
    × (map (λ rack. map (λ rs. map read_of rs.items) rack.items) l.read.items ≡ all_read there (take l.rack l.racks) reads))
