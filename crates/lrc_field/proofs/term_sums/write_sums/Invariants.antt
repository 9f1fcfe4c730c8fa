use Rattle.std.proofs.Common.{◌≤◌, ◌+◌, ◌-◌, length}
use Rattle.lrc_field.specs.Blocks.{AreSet}
use Rattle.lrc_field.specs.Combined.{sum_at}
use Rattle.lrc_field.proofs.term_sums.write_sums.Given as goal

abbrev pub invariant-sixes : goal.invariant-sixes
invariant-sixes l = record { within : l.i ≤ length l.dst; set : AreSet (λ k. sum_at l.terms (l.from + k)) l.dst l.i }

abbrev pub decreases-sixes : goal.decreases-sixes
decreases-sixes l = length l.dst - l.i

abbrev pub invariant-singles : goal.invariant-singles
invariant-singles l = record { within : l.i ≤ length l.dst; set : AreSet (λ k. sum_at l.terms (l.from + k)) l.dst l.i }

abbrev pub decreases-singles : goal.decreases-singles
decreases-singles l = length l.dst - l.i
