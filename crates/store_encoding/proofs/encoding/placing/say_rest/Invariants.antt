use Rattle.store_folder.specs.Kept.{KeepsEach}
use Rattle.store_encoding.proofs.encoding.placing.say_rest.Given as goal

abbrev pub invariant-folders : goal.invariant-folders
invariant-folders g l = KeepsEach (g.F.Folder.calls l.fn.files) (g.F.Folder.calls l.files)
