use Rattle.std.proofs.Common.{◌≤◌, ◌-◌}
use Rattle.lrc_field.specs.Combined.{AreZeroBetween}
use Rattle.lrc_field.proofs.zero_sums.sums_are_zero_between.Given as goal

abbrev pub invariant-parts : goal.invariant-parts
invariant-parts l = record { within : l.at ≤ l.to; from : l.fn.from ≤ l.at; zero : AreZeroBetween l.fn.from l.at l.terms }

abbrev pub decreases-parts : goal.decreases-parts
decreases-parts l = l.to - l.at
