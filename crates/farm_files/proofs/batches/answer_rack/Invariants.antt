use Rattle.std.proofs.Common.{◌-◌, ◌≡◌, ◌+◌, ◌*◌, ◌≤◌, List}
use Rattle.farm_orders.specs.Limits.{order_limit}
use Rattle.farm_files.specs.AnsweredRacks.{rack_requests}
use Rattle.farm_reading.specs.Pieces.{record_count}
use Rattle.farm_reading.specs.Reading.{Reads, rack_failures}
use Rattle.farm_files.proofs.RackBatches.{AreSoFar, fronts}
use Rattle.farm_files.proofs.batches.answer_rack.Given as goal

abbrev pub invariant-loop-first : goal.invariant-loop-first
invariant-loop-first g l =
    (reads : List (List Reads))
    × AreSoFar (g.I.Shelf.files l.fn.input) (fronts l.lists l.first) reads l.so_far.answers.items (rack_requests l.requests.items)
    l.so_far.ended
    × (l.first ≤ order_limit)
    × (g.I.Shelf.files l.input ≡ g.I.Shelf.files l.fn.input)
    × (g.I.Shelf.failed l.input ≡ g.I.Shelf.failed l.fn.input + rack_failures reads)
    × (g.I.Shelf.failed l.input ≤ g.I.Shelf.failed l.fn.input + 15 * record_count (fronts l.lists l.first))

abbrev pub decreases-loop-first : goal.decreases-loop-first
decreases-loop-first g l = order_limit - l.first
