use Rattle.std.proofs.Common.{◌≤◌, length}
use Rattle.list_members.specs.Lists.{Each}
use Rattle.farm_threads.specs.Jobs.{SaysStop}
use Rattle.farm_threads.proofs.Works.{IsWorking}
use Rattle.farm_threads.proofs.worker.work.Given as goal

-- what was taken so far was replied to, and none of it says to stop
abbrev pub invariant-loop : goal.invariant-loop
invariant-loop g l =
    IsWorking l.initial.jobs l.initial.replies l.jobs l.replies
    × Each (λ x. ¬ SaysStop x) l.jobs.taken
    × (length l.replies.put ≤ 4294967295)
