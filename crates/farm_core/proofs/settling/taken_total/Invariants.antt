use Rattle.std.proofs.Common.{◌≤◌, length, take}
use Rattle.std.specs.List.{sum_by}
use Rattle.farm_core.proofs.settling.taken_total.Given as goal

abbrev pub invariant-loop-end : goal.invariant-loop-end
invariant-loop-end g l = l.total ≤ sum_by (λ e. length e.taken) (take l.end-index l.takers)
