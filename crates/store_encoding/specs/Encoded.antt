-- What encoding a file leaves: its fragments under their names, and then its descriptions.
use Rattle.std.specs.Prelude.{◌≡◌, ◌⊎◌, ℕ, List, [], ◌∷◌, false, map, Option, Some, IsSomeAnd}
use Rattle.std.proofs.Common.{String, Global}
use Rattle.folders.specs.Calls.{Answered}
use Rattle.folders.specs.declared.folder.NewFile.{Ghosts}
use Rattle.folders.specs.Disk.{IsOnDisk}
use Rattle.folders.specs.Kept.{Keeps}
use Rattle.folders.specs.Placed.{WasRefused, WasSynced}
use Rattle.store_folder.specs.Done.{IsDue}
use Rattle.store_folder.specs.Kept.{IsTemporary}
use Rattle.store_folder.specs.Placed.{content_of}
use Rattle.store_folder.specs.Temporary.{is_temporary}
use Rattle.store_encoding.specs.Names.{path_of}
use Rattle.store_encoding.specs.declared.encoding.placing.Made.{Made}
use Rattle.store_encoding.specs.declared.encoding.stripe_files.StripeFiles.{StripeFiles}

-- what was written to each of the files that were made
abbrev pub contents_of : {N : Type 0} {G : Ghosts N} → List (Made N G) → List (Option (List ℕ))
contents_of made = map (λ m. content_of m.file) made

-- the path of one of some names, and the content at its index
abbrev pub IsMadeOf : List ℕ → List (String Global) → List (Option (List ℕ)) → List ℕ → Option (List ℕ) → Type 0
IsMadeOf folder [] contents path content = ⊥
IsMadeOf folder (name ∷ names) [] path content = ⊥
IsMadeOf folder (name ∷ names) (own ∷ contents) path content =
    ((path ≡ path_of folder name) × (content ≡ own)) ⊎ IsMadeOf folder names contents path content

-- Whenever the calls ended, each path but temporary ones had what it had, or, if it had nothing and is that of one of the names, all the
-- bytes that were written to the file at its index, which was put on the disk.
abbrev pub GivesEach : List ℕ → List (String Global) → List (Option (List ℕ)) → List Answered → List Answered → Type 0
GivesEach folder names contents old new =
    Keeps IsTemporary (λ path bytes. IsMadeOf folder names contents path (Some bytes) × WasSynced bytes new) old new

-- something was at a path when it was to get a file, or it leads to all of that, and its name is on the disk, or is still to be written
-- there, in one of these folders
abbrev pub IsDueAt : List (String Global) → List Answered → List ℕ → Option (List ℕ) → Type 0
IsDueAt folders calls path content = WasRefused path calls ⊎ IsSomeAnd content (IsDue folders calls path)

-- something was at a path when it was to get a file, or it has all of that, and each crash leaves it there
abbrev pub IsThereAt : List Answered → List ℕ → Option (List ℕ) → Type 0
IsThereAt calls path content = WasRefused path calls ⊎ IsSomeAnd content (λ bytes. IsOnDisk path bytes calls)

-- so it is of the paths of all names
abbrev pub AreThere : List ℕ → List (String Global) → List (Option (List ℕ)) → List Answered → Type 0
AreThere folder names contents calls =
    (path : List ℕ) (content : Option (List ℕ)) → IsMadeOf folder names contents path content → is_temporary path ≡ false
    → IsThereAt calls path content

-- what was still to be written to the disk is there
abbrev pub AreDone : List (String Global) → List Answered → List Answered → Type 0
AreDone folders old new =
    (path bytes : List ℕ) → is_temporary path ≡ false → IsDue folders old path bytes → IsOnDisk path bytes new

-- a text for each of some names
abbrev pub each_has : List (String Global) → List ℕ → List (Option (List ℕ))
each_has names text = map (λ name. Some text) names

-- First the fragments get their names, and then the descriptions theirs. Whenever the calls ended, each path but temporary ones had what it
-- had, or, if it had nothing, all the bytes of its file; and a description had come only if each fragment's path had all of it, also after
-- a crash, or had something before.
pub record EncodesFile (folder : List ℕ) (files : StripeFiles) (contents : List (Option (List ℕ))) (text : List ℕ)
    (old new : List Answered) : Type 0 where
  pub mid : List Answered
  pub fragments : GivesEach folder files.fragments.items contents old mid
  pub order : (new ≡ mid) ⊎ AreThere folder files.fragments.items contents mid
  pub descriptions : GivesEach folder files.descriptions.items (each_has files.descriptions.items text) mid new
