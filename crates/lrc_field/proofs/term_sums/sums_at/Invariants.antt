use Rattle.std.proofs.Common.{◌+◌, take}
use Rattle.lrc_field.specs.Blocks.{HasLanes}
use Rattle.lrc_field.specs.Combined.{sum_at}
use Rattle.lrc_field.proofs.term_sums.sums_at.Given as goal

abbrev pub invariant-loop-term : goal.invariant-loop-term
invariant-loop-term l = HasLanes l.sums (λ k. sum_at (take l.term-index l.terms) (l.i + k))
