use Rattle.std.proofs.Common.{◌≡◌, ℕ, List, false, vec_len}
use Rattle.store_folder.specs.Done.{IsDue}
use Rattle.store_folder.specs.Kept.{KeepsEach}
use Rattle.store_folder.specs.Temporary.{is_temporary}
use Rattle.store_folder.proofs.syncing.Touched.sync_until_fault.Given as goal

abbrev pub invariant-folders : goal.invariant-folders
invariant-folders g l = let calls = g.F.Folder.calls in record {
  keeps : KeepsEach (calls l.fn.files) (calls l.files);
  due : (path bytes : List ℕ) → is_temporary path ≡ false → IsDue l.fn.self.folders.items (calls l.fn.files) path bytes
      → IsDue l.self.folders.items (calls l.files) path bytes;
}

abbrev pub decreases-folders : goal.decreases-folders
decreases-folders g l = vec_len l.self.folders
