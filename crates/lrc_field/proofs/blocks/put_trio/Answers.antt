use Rattle.std.proofs.Common.{◌+◌, ap, arith}
use Rattle.lrc_field.proofs.TermSums.{lanes_same}
use Rattle.lrc_field.proofs.blocks.put_trio.Goals as goal

pub returns-clause-set : goal.returns-clause-set
returns-clause-set c = λ f set trio k lt.
    let i = c.args.i in
    let one = c.put.ensures.set f set trio.in_first in
    let two = c.put-2.ensures.set f one (lanes_same _ (λ n. f (i + (32 + n))) (λ n. f (i + 32 + n))
    (λ n h. ap f (omega arith)) trio.in_second) in
    c.put-3.ensures.set f (λ n h. two n (omega arith)) (lanes_same _ (λ n. f (i + (64 + n))) (λ n. f (i + 64 + n))
    (λ n h. ap f (omega arith)) trio.in_third) k (omega arith)
