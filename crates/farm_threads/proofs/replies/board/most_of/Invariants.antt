use Rattle.std.proofs.Common.{◌≡◌, ◌≤◌, ◌*◌, take}
use Rattle.farm_threads.specs.Boards.{most_served}
use Rattle.farm_threads.proofs.replies.board.most_of.Given as goal

abbrev pub invariant-loop-list : goal.invariant-loop-list
invariant-loop-list l =
    (l.most ≡ most_served (take l.list-index l.feeds)) × (l.most ≤ l.list-index * 4096)
