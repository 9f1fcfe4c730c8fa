use Rattle.lrc_field.specs.Blocks.{AreSet}
use Rattle.lrc_field.proofs.term_sums.clear.Given as goal

abbrev pub invariant-loop-k : goal.invariant-loop-k
invariant-loop-k l = AreSet (λ k. 0) l.bytes l.k
