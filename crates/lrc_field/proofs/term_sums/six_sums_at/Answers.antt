use Rattle.std.proofs.Common.{◌+◌, bit_xor, take}
use Rattle.lrc_field.specs.Combined.{product_at, sum_at}
use Rattle.lrc_field.proofs.TermSums.{six_same, sum_at-with}
use Rattle.lrc_field.proofs.term_sums.six_sums_at.Goals as goal

pub loop-term-preserved : goal.loop-term-preserved
loop-term-preserved c =
    let ts = c.args.terms.now in
    let j = c.loop-term.term-index in
    let t = c.term-item.result in
    six_same c.six_with_products-sums.result (λ k. bit_xor (sum_at (take j ts) (c.args.i + k)) (product_at t (c.args.i + k)))
    (λ k. sum_at (take (j + 1) ts) (c.args.i + k))
    (λ k lt. sum_at-with ts j (c.args.i + k) t c.loop-term-test.true c.term-item.is)
    (c.six_with_products-sums.ensures (λ k. sum_at (take j ts) (c.args.i + k)) c.loop-term.invariant)
