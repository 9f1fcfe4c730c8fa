use Rattle.store_folder.specs.Kept.{KeepsEach}
use Rattle.store_encoding.proofs.encoding.placing.discard_all.Given as goal

abbrev pub invariant-made : goal.invariant-made
invariant-made g l = KeepsEach (g.F.Folder.calls l.fn.files) (g.F.Folder.calls l.files)
