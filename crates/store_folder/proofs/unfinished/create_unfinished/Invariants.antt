use Rattle.store_folder.specs.Kept.{KeepsEach}
use Rattle.store_folder.proofs.unfinished.create_unfinished.Given as goal

abbrev pub invariant-loop-name : goal.invariant-loop-name
invariant-loop-name g l = let calls = g.F.Folder.calls in KeepsEach (calls l.fn.files) (calls l.files)
