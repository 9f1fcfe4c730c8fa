use Rattle.std.proofs.Common.{◌≤◌, ◌*◌}
use Rattle.lrc_c.proofs.pairing.are_worth_pairing.Given as goal

abbrev pub invariant-loop-k : goal.invariant-loop-k
invariant-loop-k l = record {
  apart : l.apart ≤ 16 * l.k;
  paired : l.paired ≤ 13 * l.k;
}
