use Rattle.std.proofs.Common.{◌∙◌, ap, sym, subst, ◌<◌, zero-add}
use Rattle.lrc_field.specs.Combined.{sum_at}
use Rattle.lrc_field.proofs.zero_sums.few_are_zero.Goals as goal

pub returns : goal.returns
returns c = (
  λ zero i h.
      ap (sum_at c.args.terms.now) (sym (zero-add i)) ∙ sym (c.write_few.ensures.sums i h)
      ∙ c.are_zeros.ensures.0 zero i (subst (λ n. i < n) (sym c.write_few.ensures.len) h),
  λ all. c.are_zeros.ensures.1 (λ i h.
      let within = subst (λ n. i < n) c.write_few.ensures.len h in
      c.write_few.ensures.sums i within ∙ ap (sum_at c.args.terms.now) (zero-add i) ∙ all i within),
)
