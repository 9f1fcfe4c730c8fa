use Rattle.std.proofs.Common.{length, take, ◌-◌, ◌≡◌, ◌+◌, ◌*◌, ◌≤◌, List}
use Rattle.farm_files.specs.AnsweredRacks.{AreAnswered, all_answers, all_requests}
use Rattle.farm_reading.specs.Reading.{Reads, all_failures}
use Rattle.farm_files.proofs.batches.answer_lists.Given as goal

abbrev pub invariant-loop-first : goal.invariant-loop-first
invariant-loop-first g l =
    (reads : List (List (List Reads)))
    × AreAnswered (g.I.Shelf.files l.fn.input) (take l.first l.racks) reads (all_answers l.answers.items)
    (all_requests l.requests.items)
    × (l.first ≤ length l.racks)
    × (g.I.Shelf.files l.input ≡ g.I.Shelf.files l.fn.input)
    × (g.I.Shelf.failed l.input ≡ g.I.Shelf.failed l.fn.input + all_failures reads)
    × (g.I.Shelf.failed l.input ≤ g.I.Shelf.failed l.fn.input + 245760 * l.first)

abbrev pub decreases-loop-first : goal.decreases-loop-first
decreases-loop-first g l = length l.racks - l.first
