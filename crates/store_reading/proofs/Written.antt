-- Files that are read, written to paths.
use Rattle.std.proofs.Common.{◌≡◌, refl, subst, sym, ℕ, List, ◌∷◌, true, Option, Some, None}
use Rattle.std.specs.Prelude.{IsSomeAnd}
use Rattle.folders.specs.Calls.{Answered, sync_folder}
use Rattle.folders.specs.Disk.{HasWhole, IsOnDisk}
use Rattle.folders.specs.Files.{IsIn}
use Rattle.folders.specs.Given.{IsNewAt}
use Rattle.folders.specs.Placed.{IsGiven}
use Rattle.folders.proofs.Runs.{keeps_after, keeps_weaker}
use Rattle.folders.proofs.Staying.{settled}
use Rattle.store_files.specs.Digests.{HasDigest}
use Rattle.store_folder.specs.Kept.{GivesOne, IsTemporary, KeepsEach}
use Rattle.store_folder.specs.Written.{PutsOne}
use Rattle.store_folder.proofs.Written.{puts_after, puts_given, puts_kept, puts_weaker}
use Rattle.store_reading.specs.Written.{GivesFile, IsFileAt, PutsFile}

-- a path gets a file that was made before
pub put_file : (path digest : List ℕ) (written : Option (List ℕ)) (old mid new : List Answered) → HasDigest digest written
    → KeepsEach old mid → PutsOne path written mid new → PutsFile path digest old new
put_file path digest written old mid new has kept puts =
    puts_after (IsFileAt path digest) old mid new (puts_kept (IsFileAt path digest) old mid kept)
    (puts_weaker (IsNewAt path written) (IsFileAt path digest)
    (λ p content is. (is.0, subst (λ (o : Option (List ℕ)). HasDigest digest o) (sym is.1) has)) mid new puts)

-- a path at which nothing is gets it
pub give_none : (path digest : List ℕ) (old new : List Answered) → KeepsEach old new → GivesFile path digest old new
give_none path digest old new kept =
    keeps_weaker IsTemporary (λ p bytes. ⊥) (λ p bytes. IsFileAt path digest p (Some bytes)) (λ p bytes none. absurd none) old new kept

pub give_file : (path digest : List ℕ) (written : Option (List ℕ)) (old mid new : List Answered) → HasDigest digest written
    → KeepsEach old mid → GivesOne path written mid new → GivesFile path digest old new
give_file path digest written old mid new has kept gives =
    keeps_after IsTemporary (λ p bytes. IsFileAt path digest p (Some bytes)) old mid new (give_none path digest old mid kept)
    (keeps_weaker IsTemporary (IsGiven path written new) (λ p bytes. IsFileAt path digest p (Some bytes))
    (λ p bytes is. (is.here, subst (λ (o : Option (List ℕ)). HasDigest digest o) is.whole has)) mid new gives)

-- its folder's names were written to the disk
pub settled_there : (folder path : List ℕ) (written : Option (List ℕ)) (calls new : List Answered) → IsIn folder path
    → new ≡ (sync_folder folder, true) ∷ calls → IsSomeAnd written (λ bytes. HasWhole path bytes calls)
    → IsSomeAnd written (λ bytes. IsOnDisk path bytes new)
settled_there folder path None calls new inside are has = absurd has
settled_there folder path (Some bytes) calls new inside are has =
    subst (λ (all : List Answered). IsOnDisk path bytes all) (sym are) (settled folder path bytes calls inside has)

-- a path at which nothing is gets a new file
pub puts_new : (path : List ℕ) (written : Option (List ℕ)) (old new : List Answered) → GivesOne path written old new
    → PutsOne path written old new
puts_new path written old new gives = puts_given (IsNewAt path written) path written old new (λ bytes is. (refl, sym is)) gives
