use Rattle.std.proofs.lemmas.Result.{IfOk-from_err}
use Rattle.store_repair.proofs.opening.open_at.Goals as goal

pub returns-in_err-note_unread-in-Err-clause-opened : goal.returns-in_err-note_unread-in-Err-clause-opened
returns-in_err-note_unread-in-Err-clause-opened g c = IfOk-from_err _ _ c.from_residual.ensures.0

pub returns-in_err-note_unread-in-Err-clause-said : goal.returns-in_err-note_unread-in-Err-clause-said
returns-in_err-note_unread-in-Err-clause-said g c = IfOk-from_err _ _ c.from_residual.ensures.0

pub returns-in_err-note_unread-in-Err-clause-stay : goal.returns-in_err-note_unread-in-Err-clause-stay
returns-in_err-note_unread-in-Err-clause-stay g c = IfOk-from_err _ _ c.from_residual.ensures.0

pub returns-in_err-note_unread-in-Err-clause-named : goal.returns-in_err-note_unread-in-Err-clause-named
returns-in_err-note_unread-in-Err-clause-named g c = IfOk-from_err _ _ c.from_residual.ensures.0

pub returns-in_err-note_unread-in-Err-clause-found : goal.returns-in_err-note_unread-in-Err-clause-found
returns-in_err-note_unread-in-Err-clause-found g c = IfOk-from_err _ _ c.from_residual.ensures.0
