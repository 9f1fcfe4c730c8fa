use Rattle.std.proofs.Common.{◌≤◌, ◌+◌, ◌-◌, length}
use Rattle.lrc_field.specs.Blocks.{AreSet}
use Rattle.lrc_field.specs.Combined.{three_at}
use Rattle.lrc_field.proofs.sums_of_three.write_sums_of_three.Given as goal

abbrev pub invariant-singles : goal.invariant-singles
invariant-singles l = record { within : l.i ≤ length l.dst; set : AreSet (λ k. three_at l.first l.second l.third (l.from + k)) l.dst l.i }

abbrev pub decreases-singles : goal.decreases-singles
decreases-singles l = length l.dst - l.i
