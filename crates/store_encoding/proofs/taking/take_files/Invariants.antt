use Rattle.std.proofs.Common.{ℕ, List, Bool, vec_len}
use Rattle.store_folder.specs.Written.{Puts}
use Rattle.store_encoding.specs.Taken.{AreTaken, GoesFrom, IsOneOf, KeepsRest, TakesOnly}
use Rattle.store_encoding.proofs.taking.take_files.Given as goal

abbrev pub invariant-paths : goal.invariant-paths
invariant-paths g l = record {
  keeps : TakesOnly l.fn.paths.items (g.F.Folder.calls l.fn.files) (g.F.Folder.calls l.files);
  others : KeepsRest (g.F.Folder.calls l.fn.files) (g.F.Folder.calls l.files);
  gone : Puts (GoesFrom l.fn.paths.items) (g.F.Folder.calls l.fn.files) (g.F.Folder.calls l.files);
  rest : (taken : List ℕ → Bool) → AreTaken taken l.fn.paths.items → AreTaken taken l.paths.items;
  among : (path : List ℕ) → IsOneOf l.paths.items path → IsOneOf l.fn.paths.items path;
}

abbrev pub decreases-paths : goal.decreases-paths
decreases-paths g l = vec_len l.paths
