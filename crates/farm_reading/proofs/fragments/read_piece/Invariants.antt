use Rattle.std.proofs.Common.{◌≡◌, ◌≤◌, ◌+◌, ◌*◌, List, Some, take, map, length}
use Rattle.std.specs.List.{AllZip}
use Rattle.farm_reading.specs.Pieces.{AreOrdersOf, record_count}
use Rattle.farm_shelves.specs.Files.{Files}
use Rattle.farm_lists.specs.Requests.{listed_before_close, read_of}
use Rattle.farm_reading.specs.Reading.{AreRackReads, Reads, orders_rack, rack_failures, rack_read}
use Rattle.farm_reading.proofs.fragments.read_piece.Given as goal

abbrev pub invariant-loop-feed : goal.invariant-loop-feed
invariant-loop-feed g l =
    (reads : List (List Reads))
    × AreRackReads (map (λ l. l.now) (take l.feed l.lists)) reads
    × (g.I.Shelf.files l.input ≡ g.I.Shelf.files l.fn.input)
    × (g.I.Shelf.failed l.input ≡ g.I.Shelf.failed l.fn.input + rack_failures reads)
    × (g.I.Shelf.failed l.input ≤ g.I.Shelf.failed l.fn.input + 15 * record_count (map (λ l. l.now) (take l.feed l.lists)))
    × AllZip AreOrdersOf (map (λ l. l.now) (take l.feed l.lists)) l.feeds.items
    × (map (λ rs. length rs.items) l.read.items ≡ map (λ list. length (listed_before_close list.now)) (take l.feed l.lists))
    × ((there : Files) → g.I.Shelf.files l.fn.input ≡ Some there
    → (l.feeds.items ≡ orders_rack there (map (λ l. l.now) (take l.feed l.lists)) reads)
    × (map (λ rs. map read_of rs.items) l.read.items ≡ rack_read there (map (λ l. l.now) (take l.feed l.lists)) reads))
