use Rattle.std.proofs.Common.{ℕ, ◌<◌, get_or, []}
use Rattle.farm_threads.specs.Replies.{HasNoGap}
use Rattle.farm_threads.proofs.replies.collector.least_missing.Given as goal

abbrev pub invariant-loop-rack : goal.invariant-loop-rack
invariant-loop-rack l = (r : ℕ) → r < l.rack → HasNoGap (get_or l.rows r [])
