use Rattle.std.proofs.Common.{◌≤◌, ◌-◌, length}
use Rattle.lrc_field.specs.Blocks.{AreSet}
use Rattle.lrc_field.specs.Combined.{sum_at}
use Rattle.lrc_plan.proofs.solving.combining.combined.Given as goal

abbrev pub invariant-parts : goal.invariant-parts
invariant-parts l = record {
  within : length l.bytes.items ≤ l.len;
  set : AreSet (sum_at l.terms) l.bytes.items (length l.bytes.items);
}

abbrev pub decreases-parts : goal.decreases-parts
decreases-parts l = l.len - length l.bytes.items
