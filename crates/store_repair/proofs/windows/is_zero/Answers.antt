use Rattle.std.proofs.Common.{map}
use Rattle.store_repair.proofs.WindowLemmas.{used}
use Rattle.store_repair.proofs.windows.is_zero.Goals as goal

pub sums_are_zero-requires-clause-lengths : goal.sums_are_zero-requires-clause-lengths
sums_are_zero-requires-clause-lengths c =
    let xss = map (λ s. s.now) c.args.slices.now in
    (c.terms_in-terms.ensures.terms c.args.size (used c.args.row.now xss c.args.size c.requires)).room.lengths
