use Rattle.std.proofs.lemmas.Result.{IfOk-from_err}
use Rattle.store_repair.proofs.windows.slices_of.Goals as goal

pub returns-in_err-slices : goal.returns-in_err-slices
returns-in_err-slices c = IfOk-from_err _ _ c.from_residual.ensures.0

pub returns-in_err-push : goal.returns-in_err-push
returns-in_err-push c = IfOk-from_err _ _ c.from_residual-in_err-push.ensures.0
