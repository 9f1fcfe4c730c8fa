use Rattle.std.proofs.Common.{take}
use Rattle.std.specs.List.{All}
use Rattle.store_faults.proofs.Said.{HasOther}
use Rattle.store_faults.proofs.copies.Copies.said_with.Given as goal

abbrev pub invariant-loop-copy : goal.invariant-loop-copy
invariant-loop-copy l = All (HasOther l.digest) (take l.copy-index l.self.all.items)
