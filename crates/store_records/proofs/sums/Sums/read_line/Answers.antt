use Rattle.std.proofs.lemmas.Result.{IfOk-from_err}
use Rattle.store_records.proofs.sums.Sums.read_line.Goals as goal

pub returns-in_err-sum-clause-taken : goal.returns-in_err-sum-clause-taken
returns-in_err-sum-clause-taken c = IfOk-from_err _ _ c.from_residual.ensures.0

pub returns-in_err-sum-clause-said : goal.returns-in_err-sum-clause-said
returns-in_err-sum-clause-said c = IfOk-from_err _ _ c.from_residual.ensures.0
