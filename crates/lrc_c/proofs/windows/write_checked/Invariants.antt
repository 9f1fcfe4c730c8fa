use Rattle.std.proofs.Common.{◌≤◌, ◌-◌}
use Rattle.lrc_c.specs.Windows.{AreWritten, AreZeroWithin}
use Rattle.lrc_c.proofs.windows.write_checked.Given as goal

abbrev pub invariant-windows : goal.invariant-windows
invariant-windows l = record {
  within : l.from ≤ l.len;
  zero : AreZeroWithin 0 l.from l.checks;
  written : AreWritten l.wants l.from l.a l.b l.c l.d;
}

abbrev pub decreases-windows : goal.decreases-windows
decreases-windows l = l.len - l.from
