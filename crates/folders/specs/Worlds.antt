-- What a file system may do in a run of calls, and what a crash may leave.
--
-- It is said of paths that nobody else changes, that are no links, and no two of which are one entry of a folder, and of the files that
-- they
-- lead to. Of other paths and files nothing is said. It says no more than POSIX does, but where a line names what else it rests on.
use Rattle.std.specs.Prelude.{◌≡◌, ◌≢◌, ◌⊎◌, ℕ, suc, List, [], ◌∷◌, length, Bool, true, ◌==◌, ◌&&◌, ◌||◌, not}
use Rattle.std.specs.Prelude.{Some, None, IfSome}
use Rattle.folders.specs.Calls.{Call, Answered, make, sync, link, link_again, rename, rename_again, remove, sync_folder, same_file, absent}
use Rattle.folders.specs.Files.{Files, IsIn}

-- One way in which a run may go: what programs see after each front of its calls, the newest call first, and what one crash leaves if it
-- comes
-- then. A statement that holds of each lawful world holds of all that a crash may leave.
pub record World : Type 0 where
  -- the paths that nobody else changes
  pub ours : List ℕ → Bool
  pub seen : List Answered → Files
  pub left : List Answered → Files

-- No bytes can be appended to the file any more: it was there before the calls, or one of them put it on the disk.
abbrev pub is_closed : ℕ → List Answered → Bool
is_closed file [] = true
is_closed file ((make path, ok) ∷ calls) = not (file == suc (length calls)) && is_closed file calls
is_closed file ((sync other bytes, ok) ∷ calls) = (ok && (file == other)) || is_closed file calls
is_closed file ((link other to, ok) ∷ calls) = is_closed file calls
is_closed file ((link_again from to, ok) ∷ calls) = is_closed file calls
is_closed file ((rename other from to, ok) ∷ calls) = is_closed file calls
is_closed file ((rename_again from to, ok) ∷ calls) = is_closed file calls
is_closed file ((remove path, ok) ∷ calls) = is_closed file calls
is_closed file ((sync_folder path, ok) ∷ calls) = is_closed file calls
is_closed file ((same_file path other, ok) ∷ calls) = is_closed file calls
is_closed file ((absent path, ok) ∷ calls) = is_closed file calls

-- each of our paths but those of which P holds leads where it led
abbrev pub SameBut : (List ℕ → Bool) → (List ℕ → Type 0) → Files → Files → Type 0
SameBut ours P old new = (path : List ℕ) → ours path ≡ true → (P path → ⊥) → new.named path ≡ old.named path

-- Which names a call may change, whether it answers Ok or not, and so which of its changes a crash may leave: each by itself, also after
-- further calls, until the folder of the name is on the disk. `shown` is what was seen before the call, and `file` is the number of a file
-- that it makes.
abbrev pub MayChange : (List ℕ → Bool) → Files → ℕ → Call → Files → Files → Type 0
MayChange ours shown file (make path) old new =
    SameBut ours (λ p. p ≡ path) old new × (ours path ≡ true → (new.named path ≡ old.named path) ⊎ (new.named path ≡ Some file))
MayChange ours shown file (sync other bytes) old new = SameBut ours (λ p. ⊥) old new
-- nothing may be at the path
MayChange ours shown file (link other to) old new =
    SameBut ours (λ p. p ≡ to) old new
    × (ours to ≡ true → (new.named to ≡ old.named to) ⊎ ((shown.named to ≡ None) × (new.named to ≡ Some other)))
MayChange ours shown file (link_again from to) old new =
    SameBut ours (λ p. p ≡ to) old new
    × (ours to ≡ true → ours from ≡ true → (new.named to ≡ old.named to) ⊎ ((shown.named to ≡ None) × (new.named to ≡ shown.named from)))
-- A crash leaves the one file at the second path or the other one, and never none: POSIX says it of programs; ext4, XFS, Btrfs and all
-- others
-- with a journal or copies on write say it of crashes.
MayChange ours shown file (rename other from to) old new =
    SameBut ours (λ p. (p ≡ from) ⊎ (p ≡ to)) old new
    × (ours to ≡ true → (new.named to ≡ old.named to) ⊎ (new.named to ≡ Some other))
MayChange ours shown file (rename_again from to) old new =
    SameBut ours (λ p. (p ≡ from) ⊎ (p ≡ to)) old new
    × (ours to ≡ true → ours from ≡ true → (new.named to ≡ old.named to) ⊎ (new.named to ≡ shown.named from))
MayChange ours shown file (remove path) old new =
    SameBut ours (λ p. p ≡ path) old new × (ours path ≡ true → (new.named path ≡ old.named path) ⊎ (new.named path ≡ None))
MayChange ours shown file (sync_folder path) old new = SameBut ours (λ p. ⊥) old new
MayChange ours shown file (same_file path other) old new = SameBut ours (λ p. ⊥) old new
MayChange ours shown file (absent path) old new = SameBut ours (λ p. ⊥) old new

-- what an answer Ok says: of what is seen, and of what a crash leaves from then on
abbrev pub HasDone : (List ℕ → Bool) → Files → ℕ → Call → Files → Files → Type 0
HasDone ours shown file (make path) seen left = ours path ≡ true → (shown.named path ≡ None) × (seen.named path ≡ Some file)
-- fsync: the bytes are on the disk
HasDone ours shown file (sync other bytes) seen left = IfSome bytes (λ written. (seen.bytes other ≡ written) × (left.bytes other ≡ written))
HasDone ours shown file (link other to) seen left = ours to ≡ true → (shown.named to ≡ None) × (seen.named to ≡ Some other)
HasDone ours shown file (link_again from to) seen left =
    ours to ≡ true → ours from ≡ true → (shown.named to ≡ None) × (seen.named to ≡ shown.named from)
HasDone ours shown file (rename other from to) seen left = ours to ≡ true → seen.named to ≡ Some other
HasDone ours shown file (rename_again from to) seen left = ours to ≡ true → ours from ≡ true → seen.named to ≡ shown.named from
HasDone ours shown file (remove path) seen left = ours path ≡ true → seen.named path ≡ None
-- fsync of a folder: the names in it are on the disk, as Linux's file systems do it
HasDone ours shown file (sync_folder path) seen left = (p : List ℕ) → ours p ≡ true → IsIn path p → left.named p ≡ seen.named p
-- the device and the number of a file are those of no other file
HasDone ours shown file (same_file path other) seen left = ours path ≡ true → ours other ≡ true → shown.named path ≡ shown.named other
HasDone ours shown file (absent path) seen left = ours path ≡ true → shown.named path ≡ None

-- no path of ours leads to the file
abbrev pub IsNew : (List ℕ → Bool) → ℕ → Files → Type 0
IsNew ours file files = (path : List ℕ) → ours path ≡ true → files.named path ≢ Some file

-- A file that the call makes is new. The others make none.
abbrev pub Makes : World → Call → List Answered → Type 0
Makes w (make path) calls = IsNew w.ours (suc (length calls)) (w.seen calls) × IsNew w.ours (suc (length calls)) (w.left calls)
Makes w (sync file bytes) calls = Unit {0}
Makes w (link file to) calls = Unit {0}
Makes w (link_again from to) calls = Unit {0}
Makes w (rename file from to) calls = Unit {0}
Makes w (rename_again from to) calls = Unit {0}
Makes w (remove path) calls = Unit {0}
Makes w (sync_folder path) calls = Unit {0}
Makes w (same_file path other) calls = Unit {0}
Makes w (absent path) calls = Unit {0}

-- Bytes stay in files that can't be appended to. Those of others may be any, as long as they aren't on the disk: nothing is said of the
-- order
-- in which they get there, nor of a file after a sync that failed.
abbrev pub KeepsClosed : List Answered → List Answered → Files → Files → Type 0
KeepsClosed before after old new =
    (file : ℕ) → is_closed file before ≡ true → is_closed file after ≡ true → new.bytes file ≡ old.bytes file

-- one more call
pub record IsStep (w : World) (call : Call) (ok : Bool) (calls : List Answered) : Type 0 where
  pub makes : Makes w call calls
  pub seen : MayChange w.ours (w.seen calls) (suc (length calls)) call (w.seen calls) (w.seen ((call, ok) ∷ calls))
  pub left : MayChange w.ours (w.seen calls) (suc (length calls)) call (w.left calls) (w.left ((call, ok) ∷ calls))
  pub seen_bytes : KeepsClosed calls ((call, ok) ∷ calls) (w.seen calls) (w.seen ((call, ok) ∷ calls))
  pub left_bytes : KeepsClosed calls ((call, ok) ∷ calls) (w.left calls) (w.left ((call, ok) ∷ calls))
  pub done : ok ≡ true → HasDone w.ours (w.seen calls) (suc (length calls)) call (w.seen ((call, ok) ∷ calls)) (w.left ((call, ok) ∷ calls))

-- The calls went so: each answer was true of what is seen and of what a crash leaves.
abbrev pub IsLawful : World → List Answered → Type 0
IsLawful w [] = Unit {0}
IsLawful w ((call, ok) ∷ calls) = IsLawful w calls × IsStep w call ok calls
