-- What a run of calls keeps of what is at the paths of files, whenever it ends.
use Rattle.std.specs.Prelude.{◌≡◌, ◌⊎◌, ℕ, List, [], ◌∷◌, ◌++◌, Bool, true, Some, None}
use Rattle.folders.specs.Calls.{Call, Answered, make, sync, link, link_again, rename, rename_again, remove, sync_folder, same_file, absent}
use Rattle.folders.specs.Files.{Files, under}
use Rattle.folders.specs.Worlds.{World, IsLawful, is_closed}

-- P holds after the calls before, and after each further call; the newest comes first
abbrev pub AtEach : (List Answered → Type 0) → List Answered → List Answered → Type 0
AtEach P [] before = P before
AtEach P (call ∷ more) before = P (call ∷ more ++ before) × AtEach P more before

-- Of files, as far as our paths lead to them and aren't temporary: none can be appended to.
abbrev pub AreClosed : (List ℕ → Type 0) → World → List Answered → Files → Type 0
AreClosed temporary w calls files =
    (path : List ℕ) (file : ℕ) → w.ours path ≡ true → (temporary path → ⊥) → files.named path ≡ Some file → is_closed file calls ≡ true

-- a file is at no path but temporary ones until it is on the disk
pub record IsSound (temporary : List ℕ → Type 0) (w : World) (calls : List Answered) : Type 0 where
  pub seen : AreClosed temporary w calls (w.seen calls)
  pub left : AreClosed temporary w calls (w.left calls)

-- At a path there is what was there. Or nothing was seen there, and all the bytes of a file that it was given are.
abbrev pub IsKept : (List ℕ → List ℕ → Type 0) → Files → Files → Files → List ℕ → Type 0
IsKept given shown old new path =
    (under new path ≡ under old path) ⊎ ((under shown path ≡ None) × ((bytes : List ℕ) × given path bytes × (under new path ≡ Some bytes)))

-- each of our paths that isn't temporary is kept, of what is seen and of what a crash leaves
abbrev pub AreKept : (List ℕ → Type 0) → (List ℕ → List ℕ → Type 0) → World → List Answered → List Answered → Type 0
AreKept temporary given w before calls =
    (path : List ℕ) → w.ours path ≡ true → (temporary path → ⊥)
    → IsKept given (w.seen before) (w.seen before) (w.seen calls) path × IsKept given (w.seen before) (w.left before) (w.left calls) path

-- a call that takes no path away but temporary ones, and leads none to another file: what is at a path stays there
abbrev pub TakesNone : (List ℕ → Type 0) → Call → Type 0
TakesNone temporary (make path) = temporary path
TakesNone temporary (sync file bytes) = Unit {0}
TakesNone temporary (link file to) = Unit {0}
TakesNone temporary (link_again from to) = ⊥
TakesNone temporary (rename file from to) = ⊥
TakesNone temporary (rename_again from to) = ⊥
TakesNone temporary (remove path) = temporary path
TakesNone temporary (sync_folder path) = Unit {0}
TakesNone temporary (same_file path other) = Unit {0}
TakesNone temporary (absent path) = Unit {0}

abbrev pub TakeNone : (List ℕ → Type 0) → List Answered → Type 0
TakeNone temporary [] = Unit {0}
TakeNone temporary (call ∷ more) = TakesNone temporary call.0 × TakeNone temporary more

-- Whenever the run from the old calls to the new ones ends, by a crash or by itself, each path that isn't temporary has what it had, or, if
-- it had nothing, the whole bytes of a file that it was given: after each call, in each way in which the run may have gone up to then.
pub record Keeps (temporary : List ℕ → Type 0) (given : List ℕ → List ℕ → Type 0) (old new : List Answered) : Type 0 where
  pub more : List Answered
  pub are : new ≡ more ++ old
  pub whenever : (w : World) → IsSound temporary w old
      → AtEach (λ calls. IsLawful w calls → IsSound temporary w calls × AreKept temporary given w old calls) more old
  pub takes : TakeNone temporary more

-- No path changes but this one, if it is temporary, and other temporary ones.
abbrev pub KeepsBut : List ℕ → List Answered → List Answered → Type 0
KeepsBut path old new = (temporary : List ℕ → Bool) → temporary path ≡ true → Keeps (λ p. temporary p ≡ true) (λ p bytes. ⊥) old new
