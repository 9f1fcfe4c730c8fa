use Rattle.std.proofs.Common.{◌≤◌, length, drop}
use Rattle.lrc_code.specs.Requests.{AreSources}
use Rattle.lrc_code.specs.Survivors.{survivors_of}
use Rattle.lrc_code.proofs.fragments.sources_of.Given as goal

abbrev pub invariant-fragments : goal.invariant-fragments
invariant-fragments l = record {
  within : l.left ≤ length l.fragments;
  so_far : AreSources (survivors_of (drop l.left l.fragments)) l.sources;
}

abbrev pub decreases-fragments : goal.decreases-fragments
decreases-fragments l = l.left
