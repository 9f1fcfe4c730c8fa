use Rattle.std.proofs.Common.{length, map, arith, ap, zero-add, ◌∙◌}
use Rattle.std.proofs.lemmas.Result.{on_ok_weaker}
use Rattle.lrc_field.specs.Combined.{sum_at}
use Rattle.store_repair.proofs.WindowLemmas.{reach, used}
use Rattle.store_repair.proofs.windows.append_sum.Goals as goal

pub combine_into-requires-clause-room : goal.combine_into-requires-clause-room
combine_into-requires-clause-room g c =
    let n = length c.args.sums.now in
    let xss = map (λ s. s.now) c.args.slices.now in
    reach _ n _ (omega arith) (c.terms_in-terms.ensures.terms n (used c.args.row.now xss n c.requires)).room.lengths

pub returns : goal.returns
returns g c = on_ok_weaker c.append.result
    (λ e. (
      c.combine_into.new.dst,
      record {
        long = c.combine_into.ensures.len;
        each = λ k lt. c.combine_into.ensures.sums k lt ∙ ap (sum_at c.terms_in-terms.result.now) (zero-add k)
            ∙ c.terms_in-terms.ensures.sums k;
      },
      e,
    )) c.append.ensures
