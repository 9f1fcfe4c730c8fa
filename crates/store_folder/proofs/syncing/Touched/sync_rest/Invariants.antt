use Rattle.std.proofs.Common.{vec_len}
use Rattle.store_folder.specs.Kept.{KeepsEach}
use Rattle.store_folder.proofs.syncing.Touched.sync_rest.Given as goal

abbrev pub invariant-folders : goal.invariant-folders
invariant-folders g l = KeepsEach (g.F.Folder.calls l.fn.files) (g.F.Folder.calls l.files)

abbrev pub decreases-folders : goal.decreases-folders
decreases-folders g l = vec_len l.self.folders
