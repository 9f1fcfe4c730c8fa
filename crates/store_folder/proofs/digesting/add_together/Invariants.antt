use Rattle.std.proofs.Common.{◌≡◌, ◌≤◌, ◌*◌, length, min}
use Rattle.store_folder.proofs.digesting.add_together.Given as goal

abbrev pub invariant-loop-fragment : goal.invariant-loop-fragment
invariant-loop-fragment g l = length l.reads.items ≡ l.fragment-index

abbrev pub invariant-blocks-2 : goal.invariant-blocks-2
invariant-blocks-2 g l = record {
  left : l.left ≤ l.length;
  reads : length l.reads.items ≡ length l.fragments;
  room : length l.room.items ≡ 8 * min l.length 262144;
}

abbrev pub decreases-blocks-2 : goal.decreases-blocks-2
decreases-blocks-2 g l = l.left
