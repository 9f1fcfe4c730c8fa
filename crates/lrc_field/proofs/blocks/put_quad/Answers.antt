use Rattle.std.proofs.Common.{◌+◌, ap, arith}
use Rattle.lrc_field.proofs.TermSums.{lanes_same}
use Rattle.lrc_field.proofs.blocks.put_quad.Goals as goal

pub returns-clause-set : goal.returns-clause-set
returns-clause-set c = λ f set quad k lt.
    let i = c.args.i in
    let one = c.put.ensures.set f set quad.in_first in
    let two = c.put-2.ensures.set f one (lanes_same _ (λ n. f (i + (32 + n))) (λ n. f (i + 32 + n))
    (λ n h. ap f (omega arith)) quad.in_second) in
    let three = c.put-3.ensures.set f (λ n h. two n (omega arith))
    (lanes_same _ (λ n. f (i + (64 + n))) (λ n. f (i + 64 + n)) (λ n h. ap f (omega arith)) quad.in_third) in
    c.put-4.ensures.set f (λ n h. three n (omega arith)) (lanes_same _ (λ n. f (i + (96 + n))) (λ n. f (i + 96 + n))
    (λ n h. ap f (omega arith)) quad.in_fourth) k (omega arith)
