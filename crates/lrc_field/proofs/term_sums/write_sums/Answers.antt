use Rattle.std.proofs.Common.{◌+◌, ◌-◌, ◌∙◌, length, ap, arith, sym}
use Rattle.lrc_field.specs.Combined.{sum_at}
use Rattle.lrc_field.proofs.TermSums.{lanes_same, six_same, sum_of_three}
use Rattle.lrc_field.proofs.term_sums.write_sums.Goals as goal

pub sixes-preserved : goal.sixes-preserved
sixes-preserved c =
    let sum = sum_at c.args.terms.now in
    let from = c.args.from in
    let i = c.sixes.i in
    record {
      within = omega arith;
      set = c.put_six.ensures.set (λ k. sum (from + k)) c.sixes.invariant.set
          (six_same c.six_sums_at-sums.result (λ k. sum (from + i + k)) (λ k. sum (from + (i + k)))
          (λ k lt. ap sum (omega arith)) c.six_sums_at-sums.ensures);
    }

pub singles-preserved : goal.singles-preserved
singles-preserved c =
    let sum = sum_at c.args.terms.now in
    let from = c.args.from in
    let i = c.singles.i in
    record {
      within = omega arith;
      set = c.put.ensures.set (λ k. sum (from + k)) c.singles.invariant.set
          (lanes_same c.sums_at-sums.result (λ k. sum (from + i + k)) (λ k. sum (from + (i + k)))
          (λ k lt. ap sum (omega arith)) c.sums_at-sums.ensures);
    }

pub returns-clause-sums : goal.returns-clause-sums
returns-clause-sums c = λ k lt.
    let sum = sum_at c.args.terms.now in
    let from = c.args.from in
    let last = length c.singles.dst - 32 in
    c.put-2.ensures.set (λ n. sum (from + n)) (λ n h. c.singles.invariant.set n (omega arith))
    (lanes_same c.sums_at-sums-2.result (λ n. sum (from + last + n)) (λ n. sum (from + (last + n)))
    (λ n h. ap sum (omega arith)) c.sums_at-sums-2.ensures) k (omega arith)

pub returns-then-byte-eq1-3-clause-sums : goal.returns-then-byte-eq1-3-clause-sums
returns-then-byte-eq1-3-clause-sums c = λ k lt.
    c.write_sums_of_three.ensures.sums k lt
    ∙ sum_of_three c.args.terms.now c.first-item.result c.second-item.result c.third-item.result (c.args.from + k)
    (omega (arith, c.in-len3.len_at_least, c.in-len3.len_below)) c.first-item.is c.second-item.is c.third-item.is
    (sym c.byte.ensures ∙ c.if-byte-eq1.true) (sym c.byte-then-byte-eq1.ensures ∙ c.if-byte-eq1-2.true)
    (sym c.byte-then-byte-eq1-2.ensures ∙ c.if-byte-eq1-3.true)
