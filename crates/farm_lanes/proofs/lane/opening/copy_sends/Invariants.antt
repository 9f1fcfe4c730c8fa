use Rattle.std.proofs.Common.{◌≡◌, ◌≤◌, length}
use Rattle.std.specs.Prelude.{All, vec_capacity}
use Rattle.crossbeam_channel.specs.Ends.{sends_on}
use Rattle.farm_lanes.proofs.lane.opening.copy_sends.Given as goal

abbrev pub invariant-loop-made : goal.invariant-loop-made
invariant-loop-made g l = record {
  so_far : length l.list.items ≡ l.made;
  room : l.count ≤ vec_capacity l.list;
  same : All (λ s. sends_on s ≡ sends_on l.sends) l.list.items;
}
