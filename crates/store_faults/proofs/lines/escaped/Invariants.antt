use Rattle.std.proofs.Common.{string_bytes}
use Rattle.store_faults.specs.Lines.{AreShown}
use Rattle.store_faults.proofs.lines.escaped.Given as goal

abbrev pub invariant-letters : goal.invariant-letters
invariant-letters l = AreShown (string_bytes l.line)
