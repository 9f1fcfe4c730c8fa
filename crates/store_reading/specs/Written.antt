-- A file that is read, written to a path.
use Rattle.std.specs.Prelude.{◌≡◌, ℕ, List, Option, Some}
use Rattle.folders.specs.Calls.{Answered}
use Rattle.folders.specs.Disk.{IsOnDisk}
use Rattle.folders.specs.Kept.{Keeps}
use Rattle.sha2.specs.Sha256.{sha256}
use Rattle.store_files.specs.Digests.{HasDigest}
use Rattle.store_folder.specs.Kept.{IsTemporary}
use Rattle.store_folder.specs.Placed.{content_of}
use Rattle.store_folder.specs.Written.{Puts}
use Rattle.store_reading.specs.declared.reading.destination.Attempt.{Attempt}
use Rattle.store_reading.specs.declared.reading.destination.Attempt.TheVariants as attempt

-- a path, and all of a file of a digest
abbrev pub IsFileAt : List ℕ → List ℕ → List ℕ → Option (List ℕ) → Type 0
IsFileAt to digest path content = (path ≡ to) × HasDigest digest content

-- Whenever the calls ended, each path but temporary ones had what it had, or it is this one and has all of a file of this digest.
abbrev pub PutsFile : List ℕ → List ℕ → List Answered → List Answered → Type 0
PutsFile to digest old new = Puts (IsFileAt to digest) old new

-- So it is, and if it has that, it had nothing.
abbrev pub GivesFile : List ℕ → List ℕ → List Answered → List Answered → Type 0
GivesFile to digest old new = Keeps IsTemporary (λ path bytes. IsFileAt to digest path (Some bytes)) old new

-- a path has all of a file of a digest, and each crash leaves it there
abbrev pub HasFile : List ℕ → List ℕ → List Answered → Type 0
HasFile path digest calls = (bytes : List ℕ) × (sha256 bytes ≡ digest) × IsOnDisk path bytes calls

-- if it is said to be the file that is described, all that was written has its digest
abbrev pub IsRight : List ℕ → Attempt → Type 0
IsRight digest (attempt.Right file) = HasDigest digest (content_of file)
IsRight digest (attempt.Wrong fault) = Unit {0}
