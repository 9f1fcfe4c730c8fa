use Rattle.std.proofs.Common.{◌≡◌, ◌≤◌, map, take, replicate, vec_items, vec_len, vec_capacity, None}
use Rattle.farm_threads.specs.Boards.{most_served}
use Rattle.farm_threads.specs.RunFeeds.{lists_of}
use Rattle.farm_threads.proofs.replies.board.Board.new.Given as goal

abbrev pub invariant-loop-rack : goal.invariant-loop-rack
invariant-loop-rack l =
    (vec_len l.rows ≡ l.rack) × (l.racks ≤ vec_capacity l.rows)
    × (vec_items l.rows ≡ map (λ feeds. replicate (most_served feeds) None) (take l.rack (lists_of l.lists)))
