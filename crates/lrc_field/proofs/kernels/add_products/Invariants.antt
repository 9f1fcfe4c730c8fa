use Rattle.std.proofs.Common.{map, length, ◌-◌, ◌≤◌}
use Rattle.lrc_field.specs.Field.{times}
use Rattle.lrc_field.proofs.Sums.{IsSummed}
use Rattle.lrc_field.proofs.kernels.add_products.Given as goal

abbrev pub invariant-lanes : goal.invariant-lanes
invariant-lanes l = record { within : l.at ≤ length l.dst; summed : IsSummed l.initial.dst (map (times l.c) l.src) l.dst l.at }

abbrev pub decreases-lanes : goal.decreases-lanes
decreases-lanes l = length l.dst - l.at

abbrev pub invariant-halves : goal.invariant-halves
invariant-halves l = record { within : l.at ≤ length l.dst; summed : IsSummed l.fn.dst (map (times l.c) l.src) l.dst l.at }

abbrev pub decreases-halves : goal.decreases-halves
decreases-halves l = length l.dst - l.at

abbrev pub invariant-loop-i : goal.invariant-loop-i
invariant-loop-i l = IsSummed l.fn.dst (map (times l.c) l.src) l.dst l.i
