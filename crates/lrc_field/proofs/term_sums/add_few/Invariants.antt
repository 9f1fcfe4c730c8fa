use Rattle.std.proofs.Common.{◌+◌, get_or}
use Rattle.lrc_field.specs.Field.{times}
use Rattle.lrc_field.specs.Combined.{IsAddedBelow}
use Rattle.lrc_field.proofs.term_sums.add_few.Given as goal

abbrev pub invariant-loop-k : goal.invariant-loop-k
invariant-loop-k l = IsAddedBelow (λ k. times l.c (get_or l.bytes (l.from + k) 0)) l.fn.dst l.dst l.k
