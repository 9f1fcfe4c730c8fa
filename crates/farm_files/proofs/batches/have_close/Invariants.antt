use Rattle.std.proofs.Common.{take}
use Rattle.farm_core.specs.Merge.{AreOpen}
use Rattle.farm_files.proofs.batches.have_close.Given as goal

abbrev pub invariant-loop-index : goal.invariant-loop-index
invariant-loop-index l = AreOpen (take l.index l.lists)
