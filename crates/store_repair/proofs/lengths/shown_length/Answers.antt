use Rattle.std.proofs.lemmas.Result.{IfOk-from_err}
use Rattle.store_repair.proofs.lengths.shown_length.Goals as goal

pub returns-in_err-evidence_of : goal.returns-in_err-evidence_of
returns-in_err-evidence_of g c = IfOk-from_err _ _ c.from_residual.ensures.0
