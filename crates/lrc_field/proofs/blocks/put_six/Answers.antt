use Rattle.std.proofs.Common.{◌+◌, ap, arith}
use Rattle.lrc_field.proofs.TermSums.{trio_same}
use Rattle.lrc_field.proofs.blocks.put_six.Goals as goal

pub returns-clause-set : goal.returns-clause-set
returns-clause-set c = λ f set six k lt.
    let i = c.args.i in
    let front = c.put_trio.ensures.set f set six.in_front in
    c.put_trio-2.ensures.set f front (trio_same _ (λ n. f (i + (96 + n))) (λ n. f (i + 96 + n)) (λ n h. ap f (omega arith)) six.in_back) k
    (omega arith)
