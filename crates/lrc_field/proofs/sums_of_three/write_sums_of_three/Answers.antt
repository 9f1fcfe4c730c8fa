use Rattle.std.proofs.Common.{◌+◌, ◌-◌, length, ap, arith}
use Rattle.lrc_field.specs.Combined.{three_at}
use Rattle.lrc_field.proofs.TermSums.{lanes_same}
use Rattle.lrc_field.proofs.sums_of_three.write_sums_of_three.Goals as goal

pub singles-preserved : goal.singles-preserved
singles-preserved c =
    let sum = three_at c.args.first.now c.args.second.now c.args.third.now in
    let from = c.args.from in
    let i = c.singles.i in
    record {
      within = omega arith;
      set = c.put.ensures.set (λ k. sum (from + k)) c.singles.invariant.set
          (lanes_same c.block_of_three-sums.result (λ k. sum (from + i + k)) (λ k. sum (from + (i + k)))
          (λ k lt. ap sum (omega arith)) c.block_of_three-sums.ensures);
    }

pub returns-clause-sums : goal.returns-clause-sums
returns-clause-sums c = λ k lt.
    let sum = three_at c.args.first.now c.args.second.now c.args.third.now in
    let from = c.args.from in
    let rest = length c.singles.dst - 32 in
    c.put-2.ensures.set (λ n. sum (from + n)) (λ n h. c.singles.invariant.set n (omega arith))
    (lanes_same c.block_of_three-sums-2.result (λ n. sum (from + rest + n)) (λ n. sum (from + (rest + n)))
    (λ n h. ap sum (omega arith)) c.block_of_three-sums-2.ensures) k (omega arith)
