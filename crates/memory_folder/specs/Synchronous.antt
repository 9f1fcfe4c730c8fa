-- A file system that has each change on the disk at once, and answers Ok only if it did what it was asked to. `IsLawful` holds of it, so
-- that premise can be met.
use Rattle.std.specs.Prelude.{◌≡◌, ◌≤◌, ℕ, suc, List, [], ◌∷◌, length, true, false, ◌==◌, bytes_eq, if◌then◌else◌}
use Rattle.std.specs.Prelude.{Option, Some, None}
use Rattle.folders.specs.Calls.{Call, Answered, make, sync, link, link_again, rename, rename_again, remove, sync_folder, same_file, absent}
use Rattle.folders.specs.Files.{Files}
use Rattle.folders.specs.Worlds.{World, is_closed}

-- no files
abbrev pub empty : Files
empty = record { named = λ path. None; bytes = λ file. [] }

-- files of which one path leads to another file, or to none
abbrev pub with_name : Files → List ℕ → Option ℕ → Files
with_name files path file = record { named = λ p. if bytes_eq path p then file else files.named p; bytes = files.bytes }

-- files of which one has these bytes
abbrev pub with_bytes : Files → ℕ → List ℕ → Files
with_bytes files file bytes = record { named = files.named; bytes = λ f. if file == f then bytes else files.bytes f }

-- what a call makes of files that is done; `file` is the number of a file that it makes
abbrev pub done : Call → ℕ → Files → Files
done (make path) file files = with_bytes (with_name files path (Some file)) file []
done (sync f None) file files = files
done (sync f (Some bytes)) file files = with_bytes files f bytes
done (link f to) file files = with_name files to (Some f)
done (link_again from to) file files = with_name files to (files.named from)
done (rename f from to) file files = with_name (with_name files from None) to (Some f)
done (rename_again from to) file files = with_name (with_name files from None) to (files.named from)
done (remove path) file files = with_name files path None
done (sync_folder path) file files = files
done (same_file path other) file files = files
done (absent path) file files = files

-- what is there after calls: those that answered Ok are done, and the others aren't
abbrev pub after : List Answered → Files
after [] = empty
after ((call, ok) ∷ calls) = if ok then done call (suc (length calls)) (after calls) else after calls

-- when a call can answer Ok: nothing is at a path that is given, a file that is written to the disk or gets a path was made before, and
-- paths of one file lead to one, and nothing is at a path of which that is said
abbrev pub CanBeDone : Call → List Answered → Type 0
CanBeDone (make path) calls = (after calls).named path ≡ None
CanBeDone (sync f bytes) calls = is_closed f calls ≡ false
CanBeDone (link f to) calls = ((after calls).named to ≡ None) × (f ≤ length calls)
CanBeDone (link_again from to) calls = (after calls).named to ≡ None
CanBeDone (rename f from to) calls = f ≤ length calls
CanBeDone (rename_again from to) calls = Unit {0}
CanBeDone (remove path) calls = Unit {0}
CanBeDone (sync_folder path) calls = Unit {0}
CanBeDone (same_file path other) calls = (after calls).named path ≡ (after calls).named other
CanBeDone (absent path) calls = (after calls).named path ≡ None

-- each answer Ok was one that could be
abbrev pub AreAnswered : List Answered → Type 0
AreAnswered [] = Unit {0}
AreAnswered ((call, ok) ∷ calls) = AreAnswered calls × (ok ≡ true → CanBeDone call calls)

-- what programs see is what a crash leaves, and nobody else changes anything
abbrev pub synchronous : World
synchronous = record { ours = λ path. true; seen = after; left = after }
