use Rattle.std.proofs.lemmas.Result.{IfOk-from_err}
use Rattle.store_repair.proofs.lengths.stripe_length.Goals as goal

pub returns-in_err-lengths-clause-is : goal.returns-in_err-lengths-clause-is
returns-in_err-lengths-clause-is g c = IfOk-from_err _ _ c.from_residual.ensures.0

pub returns-in_err-lengths-clause-several : goal.returns-in_err-lengths-clause-several
returns-in_err-lengths-clause-several g c = IfOk-from_err _ _ c.from_residual.ensures.0

pub returns-in_err-length-clause-is : goal.returns-in_err-length-clause-is
returns-in_err-length-clause-is g c = IfOk-from_err _ _ c.from_residual-in_err-length.ensures.0

pub returns-in_err-length-clause-several : goal.returns-in_err-length-clause-several
returns-in_err-length-clause-several g c = IfOk-from_err _ _ c.from_residual-in_err-length.ensures.0
