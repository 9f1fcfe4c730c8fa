use Rattle.std.proofs.Common.{◌≡◌, ◌≤◌, Vec, Global, All, Some, map, length}
use Rattle.farm_orders.specs.Limits.{order_limit}
use Rattle.farm_lists.specs.declared.listing.Record.{Record}
use Rattle.farm_shelves.specs.Files.{Files}
use Rattle.farm_reading.specs.Reading.{HaveFeeds}
use Rattle.farm_reading.proofs.lists.read_rack_lists.Given as goal

abbrev pub invariant-loop-feed : goal.invariant-loop-feed
invariant-loop-feed g l =
    (g.I.Shelf.files l.input ≡ g.I.Shelf.files l.fn.input)
    × (g.I.Shelf.failed l.input ≡ g.I.Shelf.failed l.fn.input)
    × (length l.feeds.items ≡ l.feed)
    × All (λ (v : Vec Record Global). length v.items ≤ order_limit) l.feeds.items
    × ((there : Files) → g.I.Shelf.files l.fn.input ≡ Some there → HaveFeeds there l.rack 0 (map (λ v. v.items) l.feeds.items))
