use Rattle.std.proofs.Common.{◌≡◌, ◌<◌, ◌≤◌, All, List, Some, length}
use Rattle.farm_orders.specs.Limits.{order_limit}
use Rattle.farm_lists.specs.declared.listing.Record.{Record}
use Rattle.farm_shelves.specs.Files.{Files}
use Rattle.farm_reading.specs.Reading.{HaveLists}
use Rattle.farm_reading.proofs.lists.read_lists.Given as goal

abbrev pub invariant-loop-rack : goal.invariant-loop-rack
invariant-loop-rack g l =
    (g.I.Shelf.files l.input ≡ g.I.Shelf.files l.fn.input)
    × (g.I.Shelf.failed l.input ≡ g.I.Shelf.failed l.fn.input)
    × (length l.racks.items ≡ l.rack)
    × All (λ (feeds : List (List Record)). (0 < length feeds) × (length feeds ≤ 4)) l.racks.items
    × All (λ (feeds : List (List Record)). All (λ (list : List Record). length list ≤ order_limit) feeds) l.racks.items
    × ((there : Files) → g.I.Shelf.files l.fn.input ≡ Some there → HaveLists there 0 l.racks.items)
