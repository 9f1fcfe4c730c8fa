use Rattle.std.proofs.lemmas.Result.{IfOk-from_err}
use Rattle.store_records.proofs.sums.Sums.text.Goals as goal

pub returns-in_err-append_line : goal.returns-in_err-append_line
returns-in_err-append_line c = IfOk-from_err _ _ c.from_residual.ensures.0
