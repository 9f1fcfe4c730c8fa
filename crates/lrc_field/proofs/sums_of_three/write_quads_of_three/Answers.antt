use Rattle.std.proofs.Common.{◌+◌, ap, arith}
use Rattle.lrc_field.specs.Combined.{three_at}
use Rattle.lrc_field.proofs.TermSums.{quad_same}
use Rattle.lrc_field.proofs.sums_of_three.write_quads_of_three.Goals as goal

pub quads-preserved : goal.quads-preserved
quads-preserved c =
    let sum = three_at c.args.first.now c.args.second.now c.args.third.now in
    let from = c.args.from in
    let i = c.quads.i in
    record {
      within = omega arith;
      ahead = quad_same c.quad_of_three-next.result (λ k. sum (from + i + 128 + k)) (λ k. sum (from + (i + 128) + k))
          (λ k lt. ap sum (omega arith)) c.quad_of_three-next.ensures;
      set = c.put_quad.ensures.set (λ k. sum (from + k)) c.quads.invariant.set
          (quad_same c.quads.sums (λ k. sum (from + i + k)) (λ k. sum (from + (i + k)))
          (λ k lt. ap sum (omega arith)) c.quads.invariant.ahead);
    }

pub returns-clause-sums : goal.returns-clause-sums
returns-clause-sums c =
    let sum = three_at c.args.first.now c.args.second.now c.args.third.now in
    let from = c.args.from in
    let i = c.quads.i in
    c.put_quad-2.ensures.set (λ k. sum (from + k)) c.quads.invariant.set
    (quad_same c.quads.sums (λ k. sum (from + i + k)) (λ k. sum (from + (i + k))) (λ k lt. ap sum (omega arith)) c.quads.invariant.ahead)
