use Rattle.std.proofs.Common.{◌≡◌, ◌≤◌, ◌+◌, ◌-◌, length}
use Rattle.lrc_field.specs.Blocks.{AreSet}
use Rattle.lrc_field.specs.Pairs.{first_sum_at, second_sum_at}
use Rattle.lrc_field.proofs.pairs.combine_pairs_into.Given as goal

abbrev pub invariant-trios : goal.invariant-trios
invariant-trios l = record {
  within : l.i ≤ length l.first;
  first_len : length l.first ≡ length l.fn.first;
  second_len : length l.second ≡ length l.fn.second;
  first : AreSet (λ k. first_sum_at l.pairs (l.from + k)) l.first l.i;
  second : AreSet (λ k. second_sum_at l.pairs (l.from + k)) l.second l.i;
}

abbrev pub decreases-trios : goal.decreases-trios
decreases-trios l = length l.first - l.i
