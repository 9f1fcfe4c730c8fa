-- What is said of a new file that gets a path.
use Rattle.std.specs.Prelude.{◌≡◌, ◌⊎◌, ℕ, List, [], ◌∷◌, true, false, Option, Some, IfSome}
use Rattle.folders.specs.Calls.{Answered, make, sync, link, link_again, rename, rename_again, remove, sync_folder, same_file, absent}
use Rattle.folders.specs.Disk.{HasWhole}

-- a file was put on the disk, to which these bytes were appended and no append failed
abbrev pub WasSynced : List ℕ → List Answered → Type 0
WasSynced bytes [] = ⊥
WasSynced bytes ((sync file written, ok) ∷ calls) = ((written ≡ Some bytes) × (ok ≡ true)) ⊎ WasSynced bytes calls
WasSynced bytes ((make path, ok) ∷ calls) = WasSynced bytes calls
WasSynced bytes ((link file to, ok) ∷ calls) = WasSynced bytes calls
WasSynced bytes ((link_again from to, ok) ∷ calls) = WasSynced bytes calls
WasSynced bytes ((rename file from to, ok) ∷ calls) = WasSynced bytes calls
WasSynced bytes ((rename_again from to, ok) ∷ calls) = WasSynced bytes calls
WasSynced bytes ((remove path, ok) ∷ calls) = WasSynced bytes calls
WasSynced bytes ((sync_folder path, ok) ∷ calls) = WasSynced bytes calls
WasSynced bytes ((same_file path other, ok) ∷ calls) = WasSynced bytes calls
WasSynced bytes ((absent path, ok) ∷ calls) = WasSynced bytes calls

-- this path, and all the bytes that were appended to the file, which one of the calls put on the disk
pub record IsGiven (to : List ℕ) (written : Option (List ℕ)) (calls : List Answered) (path bytes : List ℕ) : Type 0 where
  pub here : path ≡ to
  pub whole : written ≡ Some bytes
  pub synced : WasSynced bytes calls

-- the path leads to the file, all of whose bytes are on the disk
abbrev pub HasPath : List ℕ → Option (List ℕ) → List Answered → Type 0
HasPath to written calls = IfSome written (λ bytes. HasWhole to bytes calls)

-- a path that a file was to get and didn't
abbrev pub WasRefused : List ℕ → List Answered → Type 0
WasRefused path [] = ⊥
WasRefused path ((link file to, ok) ∷ calls) = ((to ≡ path) × (ok ≡ false)) ⊎ WasRefused path calls
WasRefused path ((make to, ok) ∷ calls) = WasRefused path calls
WasRefused path ((sync file written, ok) ∷ calls) = WasRefused path calls
WasRefused path ((link_again from to, ok) ∷ calls) = WasRefused path calls
WasRefused path ((rename file from to, ok) ∷ calls) = WasRefused path calls
WasRefused path ((rename_again from to, ok) ∷ calls) = WasRefused path calls
WasRefused path ((remove to, ok) ∷ calls) = WasRefused path calls
WasRefused path ((sync_folder to, ok) ∷ calls) = WasRefused path calls
WasRefused path ((same_file to other, ok) ∷ calls) = WasRefused path calls
WasRefused path ((absent to, ok) ∷ calls) = WasRefused path calls
