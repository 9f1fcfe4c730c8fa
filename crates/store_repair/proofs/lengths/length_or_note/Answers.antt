use Rattle.std.proofs.lemmas.Result.{IfOk-from_err}
use Rattle.store_repair.proofs.lengths.length_or_note.Goals as goal

pub returns-in_err-length-clause-said : goal.returns-in_err-length-clause-said
returns-in_err-length-clause-said g c = IfOk-from_err _ _ c.from_residual.ensures.0

pub returns-in_err-length-clause-some : goal.returns-in_err-length-clause-some
returns-in_err-length-clause-some g c = IfOk-from_err _ _ c.from_residual.ensures.0

pub returns-in_err-length-clause-none : goal.returns-in_err-length-clause-none
returns-in_err-length-clause-none g c = IfOk-from_err _ _ c.from_residual.ensures.0

pub returns-in_err-length-clause-several : goal.returns-in_err-length-clause-several
returns-in_err-length-clause-several g c = IfOk-from_err _ _ c.from_residual.ensures.0

pub returns-in_err-note_no_survivor-in-NoFiles-clause-said : goal.returns-in_err-note_no_survivor-in-NoFiles-clause-said
returns-in_err-note_no_survivor-in-NoFiles-clause-said g c = IfOk-from_err _ _ c.from_residual-in_err-note_no_survivor-in-NoFiles.ensures.0

pub returns-in_err-note_no_survivor-in-NoFiles-clause-some : goal.returns-in_err-note_no_survivor-in-NoFiles-clause-some
returns-in_err-note_no_survivor-in-NoFiles-clause-some g c = IfOk-from_err _ _ c.from_residual-in_err-note_no_survivor-in-NoFiles.ensures.0

pub returns-in_err-note_no_survivor-in-NoFiles-clause-none : goal.returns-in_err-note_no_survivor-in-NoFiles-clause-none
returns-in_err-note_no_survivor-in-NoFiles-clause-none g c = IfOk-from_err _ _ c.from_residual-in_err-note_no_survivor-in-NoFiles.ensures.0

pub returns-in_err-note_no_survivor-in-NoFiles-clause-several : goal.returns-in_err-note_no_survivor-in-NoFiles-clause-several
returns-in_err-note_no_survivor-in-NoFiles-clause-several g c =
    IfOk-from_err _ _ c.from_residual-in_err-note_no_survivor-in-NoFiles.ensures.0

pub returns-in_err-note-in-Undecided-clause-said : goal.returns-in_err-note-in-Undecided-clause-said
returns-in_err-note-in-Undecided-clause-said g c = IfOk-from_err _ _ c.from_residual-in_err-note-in-Undecided.ensures.0

pub returns-in_err-note-in-Undecided-clause-some : goal.returns-in_err-note-in-Undecided-clause-some
returns-in_err-note-in-Undecided-clause-some g c = IfOk-from_err _ _ c.from_residual-in_err-note-in-Undecided.ensures.0

pub returns-in_err-note-in-Undecided-clause-none : goal.returns-in_err-note-in-Undecided-clause-none
returns-in_err-note-in-Undecided-clause-none g c = IfOk-from_err _ _ c.from_residual-in_err-note-in-Undecided.ensures.0

pub returns-in_err-note-in-Undecided-clause-several : goal.returns-in_err-note-in-Undecided-clause-several
returns-in_err-note-in-Undecided-clause-several g c = IfOk-from_err _ _ c.from_residual-in_err-note-in-Undecided.ensures.0
