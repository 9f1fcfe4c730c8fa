use Rattle.store_faults.proofs.copies.Copies.believed.Goals as goal

pub returns-in-Some : goal.returns-in-Some
returns-in-Some c = rw c.in-Some.is c.said_with.ensures

pub returns-in-None : goal.returns-in-None
returns-in-None c = rw c.in-None.is c.said_by_most.ensures
