use Rattle.std.proofs.Common.{take}
use Rattle.std.specs.List.{All}
use Rattle.store_faults.proofs.Said.{IsOfFew}
use Rattle.store_faults.proofs.copies.Copies.said_by_most.Given as goal

abbrev pub invariant-loop-copy : goal.invariant-loop-copy
invariant-loop-copy l = All (IsOfFew l.self) (take l.copy-index l.self.all.items)
