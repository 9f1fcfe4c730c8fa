use Rattle.std.proofs.Common.{◌≡◌, ◌≤◌, ◌+◌, ◌-◌, length, take, ◌∙◌, ap, sym, inl, inr, arith}
use Rattle.std.proofs.lemmas.Bool.{cases_lt}
use Rattle.std.proofs.lemmas.List.{length-take-le}
use Rattle.lrc_field.specs.Combined.{sum_at}
use Rattle.lrc_field.proofs.zero_sums.sums_are_zero_between.Goals as goal

pub parts-preserved : goal.parts-preserved
parts-preserved c =
    let sum = sum_at c.args.terms.now in
    let at = c.parts.at in
    let size = c.min-size.result in
    let fits : size ≤ length c.parts.part = omega arith in
    let whole : length (take size c.parts.part) ≡ size = length-take-le size c.parts.part fits in
    record {
      within = omega arith;
      from = omega arith;
      zero = λ i ge lt. elim (cases_lt i at) as (λ _. sum_at c.args.terms.now i ≡ 0) [
        | inl below ↦ c.parts.invariant.zero i ge below
        | inr above ↦ (let back : at + (i - at) ≡ i = omega arith in ap sum (sym back)
            ∙ c.part_is_zero.ensures.0 c.if-not-part_is_zero.false (i - at) (omega arith))
      ];
    }
