use Rattle.lrc_code.specs.Codes.{tables_of}
use Rattle.lrc_code.specs.Reduction.{rows_by_index}
use Rattle.lrc_code.proofs.Reducing.{IsReducedTo}
use Rattle.lrc_code.proofs.reduction.reduce_in.Given as goal

abbrev pub invariant-loop-k : goal.invariant-loop-k
invariant-loop-k l = IsReducedTo (rows_by_index (tables_of l.fn.code)) l.lost l.rows l.pivots l.k
