use Rattle.farm_threads.specs.Settled.{HasCleared}
use Rattle.farm_core.proofs.threads.collecting.clear.Given as goal

-- the collector has what was taken so far
abbrev pub invariant-loop : goal.invariant-loop
invariant-loop g l = HasCleared l.fn.desk.board.racks l.fn.desk.replies l.board l.fault l.replies
