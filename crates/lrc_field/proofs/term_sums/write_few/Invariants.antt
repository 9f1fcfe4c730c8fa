use Rattle.std.proofs.Common.{◌≡◌, ◌+◌, length, take}
use Rattle.lrc_field.specs.Blocks.{AreSet}
use Rattle.lrc_field.specs.Combined.{sum_at}
use Rattle.lrc_field.proofs.term_sums.write_few.Given as goal

abbrev pub invariant-loop-term : goal.invariant-loop-term
invariant-loop-term l = record {
  len : length l.dst ≡ length l.fn.dst;
  sums : AreSet (λ k. sum_at (take l.term-index l.terms) (l.from + k)) l.dst (length l.fn.dst);
}
