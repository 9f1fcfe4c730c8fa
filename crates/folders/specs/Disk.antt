-- What is on the disk.
use Rattle.std.specs.Prelude.{◌≡◌, ℕ, List, true, Some}
use Rattle.folders.specs.Calls.{Answered}
use Rattle.folders.specs.Worlds.{World, IsLawful, is_closed}

-- A path leads to a file with these bytes, as programs see it, and the file's bytes are on the disk.
pub record IsWhole (w : World) (calls : List Answered) (path bytes : List ℕ) : Type 0 where
  pub file : ℕ
  pub leads : (w.seen calls).named path ≡ Some file
  pub closed : is_closed file calls ≡ true
  pub seen : (w.seen calls).bytes file ≡ bytes
  pub left : (w.left calls).bytes file ≡ bytes

-- so it is in each lawful run of these calls
abbrev pub HasWhole : List ℕ → List ℕ → List Answered → Type 0
HasWhole path bytes calls = (w : World) → IsLawful w calls → w.ours path ≡ true → IsWhole w calls path bytes

-- and a crash leaves the path leading to that file
pub record IsHeld (w : World) (calls : List Answered) (path bytes : List ℕ) : Type 0 where
  pub whole : IsWhole w calls path bytes
  pub leads : (w.left calls).named path ≡ Some whole.file

-- in each lawful run of these calls the path has the bytes, and each crash leaves them there
abbrev pub IsOnDisk : List ℕ → List ℕ → List Answered → Type 0
IsOnDisk path bytes calls = (w : World) → IsLawful w calls → w.ours path ≡ true → IsHeld w calls path bytes
