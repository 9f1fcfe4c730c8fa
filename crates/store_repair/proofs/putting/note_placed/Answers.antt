use Rattle.store_repair.proofs.NotedLemmas.{named_now, named_still}
use Rattle.store_repair.proofs.putting.note_placed.Goals as goal

pub returns-in_ok-note-in-Ok-IsThere-clause-grows : goal.returns-in_ok-note-in-Ok-IsThere-clause-grows
returns-in_ok-note-in-Ok-IsThere-clause-grows c = λ p has. named_still _ _ _ p c.in_ok-note-in-Ok-IsThere.ensures.named has

pub returns-in_ok-note-in-Ok-IsThere-clause-said : goal.returns-in_ok-note-in-Ok-IsThere-clause-said
returns-in_ok-note-in-Ok-IsThere-clause-said c = λ _. named_now _ _ c.args.place c.in_ok-note-in-Ok-IsThere.ensures.named

pub returns-in_ok-note_unwritten-in-Err-clause-grows : goal.returns-in_ok-note_unwritten-in-Err-clause-grows
returns-in_ok-note_unwritten-in-Err-clause-grows c = λ p has. named_still _ _ _ p c.in_ok-note_unwritten-in-Err.ensures.named has

pub returns-in_ok-note_unwritten-in-Err-clause-said : goal.returns-in_ok-note_unwritten-in-Err-clause-said
returns-in_ok-note_unwritten-in-Err-clause-said c = λ _. named_now _ _ c.args.place c.in_ok-note_unwritten-in-Err.ensures.named
