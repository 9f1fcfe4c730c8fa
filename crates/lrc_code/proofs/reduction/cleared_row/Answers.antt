use Rattle.std.proofs.Common.{rules, ◌≡◌, ◌∙◌, sym, ap, map, length, slice_index}
use Rattle.lrc_field.specs.Field.{times}
use Rattle.lrc_field.specs.Sums.{sums}
use Rattle.lrc_field.proofs.Scaled.{sums-scaled_zero}
use Rattle.lrc_code.proofs.reduction.cleared_row.Goals as goal

-- a row that has 0 in the column stays
pub returns-then-row-k-eq0 : goal.returns-then-row-k-eq0
returns-then-row-k-eq0 c =
    let zero : slice_index c.args.row c.args.k ≡ 0 = search rules in
    let same : length c.args.row ≡ length c.args.unit.now = search rules in
    sym (ap (λ f. sums c.args.row (map (times f) c.args.unit.now)) zero ∙ sums-scaled_zero c.args.row c.args.unit.now same)
