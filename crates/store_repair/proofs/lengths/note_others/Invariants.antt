use Rattle.std.proofs.Common.{◌≡◌}
use Rattle.store_repair.specs.Scrubbed.{said_damaged}
use Rattle.store_repair.proofs.lengths.note_others.Given as goal

abbrev pub invariant-unread : goal.invariant-unread
invariant-unread l = said_damaged l.findings.items ≡ said_damaged l.fn.findings.items
