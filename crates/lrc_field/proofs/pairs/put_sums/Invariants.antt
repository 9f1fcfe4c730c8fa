use Rattle.std.proofs.Common.{◌+◌, take}
use Rattle.lrc_field.specs.Blocks.{HasTrio}
use Rattle.lrc_field.specs.Pairs.{first_sum_at, second_sum_at}
use Rattle.lrc_field.proofs.pairs.put_sums.Given as goal

abbrev pub invariant-loop-pair : goal.invariant-loop-pair
invariant-loop-pair l = record {
  first : HasTrio l.a (λ k. first_sum_at (take l.pair-index l.pairs) (l.at + k));
  second : HasTrio l.b (λ k. second_sum_at (take l.pair-index l.pairs) (l.at + k));
}
