use Rattle.std.proofs.Common.{◌+◌, ◌∙◌, ap, arith, take, bit_xor}
use Rattle.lrc_field.specs.declared.pairs.Pair.{Pair}
use Rattle.lrc_field.specs.Pairs.{first_sum_at, second_sum_at}
use Rattle.lrc_field.proofs.TermSums.{trio_same}
use Rattle.lrc_field.proofs.PairSums.{scaled_at, pair_with, pair_all}
use Rattle.lrc_field.proofs.pairs.put_sums.Goals as goal

pub loop-pair-preserved : goal.loop-pair-preserved
loop-pair-preserved c =
    let ps = c.args.pairs.now in
    let j = c.loop-pair.pair-index in
    let p = c.pair-item.result in
    let at = c.args.from + c.args.i in
    record {
      first = trio_same c.with_products-sums.result.0 (λ k. bit_xor (first_sum_at (take j ps) (at + k))
          (scaled_at (λ (q : Pair). q.first) p (at + k))) (λ k. first_sum_at (take (j + 1) ps) (at + k))
          (λ k lt. pair_with (λ (q : Pair). q.first) ps j (at + k) p c.loop-pair-test.true c.pair-item.is)
          (c.with_products-sums.ensures.first (λ k. first_sum_at (take j ps) (at + k)) c.loop-pair.invariant.first);
      second = trio_same c.with_products-sums.result.1 (λ k. bit_xor (second_sum_at (take j ps) (at + k))
          (scaled_at (λ (q : Pair). q.second) p (at + k))) (λ k. second_sum_at (take (j + 1) ps) (at + k))
          (λ k lt. pair_with (λ (q : Pair). q.second) ps j (at + k) p c.loop-pair-test.true c.pair-item.is)
          (c.with_products-sums.ensures.second (λ k. second_sum_at (take j ps) (at + k)) c.loop-pair.invariant.second);
    }

pub returns-clause-first_set : goal.returns-clause-first_set
returns-clause-first_set c = λ set.
    let ps = c.args.pairs.now in
    let from = c.args.from in
    let i = c.args.i in
    c.put_trio.ensures.set (λ k. first_sum_at ps (from + k)) set
    (trio_same c.loop-pair.a _ (λ k. first_sum_at ps (from + (i + k)))
    (λ k lt. pair_all (λ (q : Pair). q.first) ps c.loop-pair.pair-index (from + i + k) (omega arith)
    ∙ ap (first_sum_at ps) (omega arith)) c.loop-pair.invariant.first)

pub returns-clause-second_set : goal.returns-clause-second_set
returns-clause-second_set c = λ set.
    let ps = c.args.pairs.now in
    let from = c.args.from in
    let i = c.args.i in
    c.put_trio-2.ensures.set (λ k. second_sum_at ps (from + k)) set
    (trio_same c.loop-pair.b _ (λ k. second_sum_at ps (from + (i + k)))
    (λ k lt. pair_all (λ (q : Pair). q.second) ps c.loop-pair.pair-index (from + i + k) (omega arith)
    ∙ ap (second_sum_at ps) (omega arith)) c.loop-pair.invariant.second)
