use Rattle.std.proofs.Common.{◌≤◌, ◌+◌, ◌-◌, length}
use Rattle.lrc_field.specs.Blocks.{AreSet, HasQuad}
use Rattle.lrc_field.specs.Combined.{three_at}
use Rattle.lrc_field.proofs.sums_of_three.write_quads_of_three.Given as goal

abbrev pub invariant-quads : goal.invariant-quads
invariant-quads l = record {
  within : l.i + 128 ≤ length l.dst;
  ahead : HasQuad l.sums (λ k. three_at l.first l.second l.third (l.from + l.i + k));
  set : AreSet (λ k. three_at l.first l.second l.third (l.from + k)) l.dst l.i;
}

abbrev pub decreases-quads : goal.decreases-quads
decreases-quads l = length l.dst - l.i
