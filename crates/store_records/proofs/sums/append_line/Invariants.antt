use Rattle.std.proofs.Common.{◌≡◌, ◌++◌, take}
use Rattle.store_records.specs.SumLines.{escaped}
use Rattle.store_records.proofs.sums.append_line.Given as goal

abbrev pub invariant-loop-byte : goal.invariant-loop-byte
invariant-loop-byte l = l.text.items ≡ l.initial.text.items ++ escaped (take l.byte-index l.name)
