use Rattle.store_repair.proofs.scrubbing.note_fault.Goals as goal

pub returns-in-OutOfMemory-clause-said : goal.returns-in-OutOfMemory-clause-said
returns-in-OutOfMemory-clause-said c = tt

pub returns-in-OutOfMemory-clause-some : goal.returns-in-OutOfMemory-clause-some
returns-in-OutOfMemory-clause-some c = tt

pub returns-in-OutOfMemory-clause-stay : goal.returns-in-OutOfMemory-clause-stay
returns-in-OutOfMemory-clause-stay c = tt
