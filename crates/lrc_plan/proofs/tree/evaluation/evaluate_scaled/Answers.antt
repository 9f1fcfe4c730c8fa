use Rattle.std.proofs.Common.{◌≡◌, length, drop, arith, ap, get_or}
use Rattle.lrc_plan.proofs.EvaluationSteps.{written, zero_plus}
use Rattle.lrc_plan.proofs.FittingStripes.{whole}
use Rattle.lrc_plan.proofs.tree.evaluation.evaluate_scaled.Goals as goal

pub add_scaled-requires-clause-whole : goal.add_scaled-requires-clause-whole
add_scaled-requires-clause-whole g c = whole c.args.request.now c.length.ensures.accepted c.length.ensures.bytes

pub returns : goal.returns
returns g c =
    let n : length c.add_scaled.new.dst ≡ c.in_ok-bytes.bytes.len = omega arith in
    let e = written c.in_ok-bytes.bytes.len c.add_scaled.new.dst
    (drop (length c.add_scaled.new.dst) c.in_ok-bytes.bytes.items) n in
    rw e (record {
      len = omega (arith, c.in_ok-bytes.ensures.len, c.length.ensures.value);
      at = λ i h. zero_plus _ _ _ _ (c.add_scaled.ensures.sum i
          (omega (arith, h, c.in_ok-bytes.ensures.len, c.length.ensures.value)))
          (ap (λ s. get_or s i 0) c.as_mut_slice.ensures.value)
          (c.in_ok-bytes.ensures.zero i (omega
          (arith, h, c.in_ok-bytes.ensures.len, c.length.ensures.value)));
    })
