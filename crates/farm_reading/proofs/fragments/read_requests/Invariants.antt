use Rattle.std.proofs.Common.{◌≡◌, ◌≤◌, ◌+◌, ◌*◌, List, Some, take, map, length}
use Rattle.std.specs.List.{AllZip}
use Rattle.lrc_code.specs.Requests.{Asked}
use Rattle.farm_orders.specs.declared.orders.Order.TheVariants.{Rebuild}
use Rattle.farm_shelves.specs.Files.{Files}
use Rattle.farm_reading.specs.Reading.{AreReads, Reads, asked_feed, feed_failures, feed_read}
use Rattle.farm_lists.specs.Requests.{read_of}
use Rattle.farm_reading.proofs.fragments.read_requests.Given as goal

abbrev pub invariant-loop-index : goal.invariant-loop-index
invariant-loop-index g l =
    (reads : List Reads)
    × AllZip AreReads (map (λ r. r.now) (take l.index l.requests)) reads
    × (g.I.Shelf.files l.input ≡ g.I.Shelf.files l.fn.input)
    × (g.I.Shelf.failed l.input ≡ g.I.Shelf.failed l.fn.input + feed_failures reads)
    × (g.I.Shelf.failed l.input ≤ g.I.Shelf.failed l.fn.input + 15 * l.index)
    × ((requests : List Asked) × (l.orders.items ≡ map Rebuild requests) × (length requests ≡ l.index)) × (length l.read.items ≡ l.index)
    × ((there : Files) → g.I.Shelf.files l.fn.input ≡ Some there
    → (l.orders.items ≡ map Rebuild (asked_feed there (map (λ r. r.now) (take l.index l.requests)) reads))
    × (map read_of l.read.items ≡ feed_read there (map (λ r. r.now) (take l.index l.requests)) reads))
