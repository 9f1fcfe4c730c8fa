use Rattle.std.proofs.Common.{◌≡◌, ◌≢◌, [], true}
use Rattle.store_repair.specs.Findings.{is_without_length}
use Rattle.store_repair.specs.Scrubbed.{said_damaged}
use Rattle.store_repair.proofs.outcomes.note_unknown.Given as goal

abbrev pub invariant-loop-place : goal.invariant-loop-place
invariant-loop-place l = record {
  said : said_damaged l.findings.items ≡ said_damaged l.fn.findings.items;
  length : is_without_length l.fn.findings.items ≡ true → is_without_length l.findings.items ≡ true;
  some : l.fn.findings.items ≢ [] → l.findings.items ≢ [];
}
