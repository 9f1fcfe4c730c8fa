use Rattle.std.proofs.Common.{refl}
use Rattle.lrc_code.specs.Code.{narrow_equations, wide_equations}
use Rattle.lrc_code.specs.Reduction.{rows_by_index}
use Rattle.lrc_code.proofs.codes.Code.equations.Goals as goal

pub returns-in-Narrow : goal.returns-in-Narrow
unfolding narrow_equations rows_by_index
returns-in-Narrow c = rw c.in-Narrow.is refl

pub returns-in-Wide : goal.returns-in-Wide
unfolding wide_equations rows_by_index
returns-in-Wide c = rw c.in-Wide.is refl
