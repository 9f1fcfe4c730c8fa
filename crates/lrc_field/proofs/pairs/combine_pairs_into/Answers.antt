use Rattle.std.proofs.Common.{arith}
use Rattle.lrc_field.proofs.pairs.combine_pairs_into.Goals as goal

pub returns-clause-first_sums : goal.returns-clause-first_sums
returns-clause-first_sums c = λ k lt.
    c.put_sums-2.ensures.first_set (λ n h. c.trios.invariant.first n (omega arith)) k (omega arith)

pub returns-clause-second_sums : goal.returns-clause-second_sums
returns-clause-second_sums c = λ k lt.
    c.put_sums-2.ensures.second_set (λ n h. c.trios.invariant.second n (omega arith)) k (omega arith)
