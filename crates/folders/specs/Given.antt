-- What a run of calls keeps that gives paths to other files, whenever it ends. `gives from to` says that the second path is to get the file
-- of the first, and `puts path content` that the path is to get a new file of these bytes, or, if there are none, to go.
use Rattle.std.specs.Prelude.{◌≡◌, ◌⊎◌, ℕ, List, [], ◌∷◌, ◌++◌, true, Option, None}
use Rattle.folders.specs.Calls.{Call, Answered, make, sync, link, link_again, rename, rename_again, remove, sync_folder, same_file, absent}
use Rattle.folders.specs.Files.{Files, under}
use Rattle.folders.specs.Worlds.{World, IsLawful}
use Rattle.folders.specs.Kept.{AtEach, IsSound}
use Rattle.folders.specs.Exchanged.{seen_at}

-- at a path there is what was seen at one whose file it was to get
abbrev pub HasFileOf : (List ℕ → List ℕ → Type 0) → Files → Files → Files → List ℕ → Type 0
HasFileOf gives shown old new path = (from : List ℕ) × gives from path × (under new path ≡ seen_at shown old from)

-- At a path there is what was there, or what was seen at one whose file it was to get, or all the bytes of a new file that it was to get,
-- or nothing if it was to go.
abbrev pub HasOneOf : (List ℕ → List ℕ → Type 0) → (List ℕ → Option (List ℕ) → Type 0) → Files → Files → Files → List ℕ → Type 0
HasOneOf gives puts shown old new path =
    (under new path ≡ under old path)
    ⊎ HasFileOf gives shown old new path
    ⊎ ((content : Option (List ℕ)) × puts path content × (under new path ≡ content))

-- So it is of what is seen and of what a crash leaves, at each path of ours that isn't temporary. The file that is seen at a path that was
-- to get none has what a crash left of it before.
pub record AreGiven (temporary : List ℕ → Type 0) (gives : List ℕ → List ℕ → Type 0) (puts : List ℕ → Option (List ℕ) → Type 0) (w : World)
    (before calls : List Answered) : Type 0 where
  pub seen : (path : List ℕ) → w.ours path ≡ true → (temporary path → ⊥)
      → HasOneOf gives puts (w.seen before) (w.seen before) (w.seen calls) path
  pub left : (path : List ℕ) → w.ours path ≡ true → (temporary path → ⊥)
      → HasOneOf gives puts (w.seen before) (w.left before) (w.left calls) path
  pub still : (path : List ℕ) → w.ours path ≡ true → (temporary path → ⊥) → ((from : List ℕ) → gives from path → ⊥)
      → ((content : Option (List ℕ)) → puts path content → ⊥)
      → seen_at (w.seen calls) (w.left calls) path ≡ seen_at (w.seen before) (w.left before) path

-- if the call renames the file at a path, the path is ours
abbrev pub IsOwn : World → Call → Type 0
IsOwn w (make path) = Unit {0}
IsOwn w (sync file bytes) = Unit {0}
IsOwn w (link file to) = Unit {0}
IsOwn w (link_again from to) = Unit {0}
IsOwn w (rename file from to) = Unit {0}
IsOwn w (rename_again from to) = w.ours from ≡ true
IsOwn w (remove path) = Unit {0}
IsOwn w (sync_folder path) = Unit {0}
IsOwn w (same_file path other) = Unit {0}
IsOwn w (absent path) = Unit {0}

-- so it is of each of the calls
abbrev pub RenameOwn : World → List Answered → Type 0
RenameOwn w [] = Unit {0}
RenameOwn w (call ∷ calls) = IsOwn w call.0 × RenameOwn w calls

-- Whenever the run from the old calls to the new ones ends, by a crash or by itself, each path that isn't temporary has what it had, or
-- what was seen at one whose file it was to get, or all the bytes of a new file that it was to get, or nothing if it was to go.
pub record Gives (temporary : List ℕ → Type 0) (gives : List ℕ → List ℕ → Type 0) (puts : List ℕ → Option (List ℕ) → Type 0)
    (old new : List Answered) : Type 0 where
  pub more : List Answered
  pub are : new ≡ more ++ old
  pub whenever : (w : World) → IsSound temporary w old → RenameOwn w new → ((from to : List ℕ) → gives from to → w.ours from ≡ true)
      → AtEach (λ calls. IsLawful w calls → IsSound temporary w calls × AreGiven temporary gives puts w old calls) more old

-- no path gets the file of another one
abbrev pub Nothing : List ℕ → List ℕ → Type 0
Nothing path other = ⊥

-- no path gets a new file, or goes
abbrev pub NothingNew : List ℕ → Option (List ℕ) → Type 0
NothingNew path content = ⊥

-- one path that gets a new file of these bytes, or goes
abbrev pub IsNewAt : List ℕ → Option (List ℕ) → List ℕ → Option (List ℕ) → Type 0
IsNewAt at bytes path content = (path ≡ at) × (content ≡ bytes)

-- each path that one of the calls takes away is taken
abbrev pub Remove : (List ℕ → Type 0) → List Answered → Type 0
Remove taken [] = Unit {0}
Remove taken ((make path, ok) ∷ calls) = Remove taken calls
Remove taken ((sync file bytes, ok) ∷ calls) = Remove taken calls
Remove taken ((link file to, ok) ∷ calls) = Remove taken calls
Remove taken ((link_again from to, ok) ∷ calls) = Remove taken calls
Remove taken ((rename file from to, ok) ∷ calls) = Remove taken calls
Remove taken ((rename_again from to, ok) ∷ calls) = Remove taken calls
Remove taken ((remove path, ok) ∷ calls) = taken path × Remove taken calls
Remove taken ((sync_folder path, ok) ∷ calls) = Remove taken calls
Remove taken ((same_file path other, ok) ∷ calls) = Remove taken calls
Remove taken ((absent path, ok) ∷ calls) = Remove taken calls

-- one path that is to get the file of another one
abbrev pub IsPair : List ℕ → List ℕ → List ℕ → List ℕ → Type 0
IsPair path other from to = (from ≡ path) × (to ≡ other)

-- two paths of ours lead to one file, and each crash leaves the second one leading there
abbrev pub LeadThere : List ℕ → List ℕ → List Answered → Type 0
LeadThere path other calls =
    (w : World) → IsLawful w calls → RenameOwn w calls → w.ours path ≡ true → w.ours other ≡ true
    → ((w.seen calls).named other ≡ (w.seen calls).named path) × ((w.left calls).named other ≡ (w.seen calls).named path)

-- nothing is seen at a path of ours
abbrev pub IsAbsent : List ℕ → List Answered → Type 0
IsAbsent path calls = (w : World) → IsLawful w calls → w.ours path ≡ true → (w.seen calls).named path ≡ None

-- A path has what was seen at one whose file it was to get, and a crash leaves that there.
pub record HasGot (gives : List ℕ → List ℕ → Type 0) (w : World) (before calls : List Answered) (path : List ℕ) : Type 0 where
  pub seen : HasFileOf gives (w.seen before) (w.seen before) (w.seen calls) path
  pub left : HasFileOf gives (w.seen before) (w.left before) (w.left calls) path
