-- The names of files in a store, and their paths.
use Rattle.std.specs.Prelude.{◌≡◌, ◌⊎◌, ℕ, List, [], ◌∷◌, ◌++◌, false, codes, string_bytes}
use Rattle.std.proofs.Common.{String, Global}
use Rattle.folders.specs.Files.{slash}
use Rattle.folders.specs.Given.{IsPair}
use Rattle.store_folder.specs.Temporary.{is_temporary}
use Rattle.store_encoding.specs.declared.encoding.stripe_files.StripeFiles.{StripeFiles}

-- the path of a name in a folder
abbrev pub path_of : List ℕ → String Global → List ℕ
path_of folder name = folder ++ slash ∷ string_bytes name

-- the path of one of some names
abbrev pub IsNamed : List ℕ → List (String Global) → List ℕ → Type 0
IsNamed folder [] path = ⊥
IsNamed folder (name ∷ names) path = (path ≡ path_of folder name) ⊎ IsNamed folder names path

-- the path of one of the names of a stripe's files
abbrev pub IsFileOf : List ℕ → StripeFiles → List ℕ → Type 0
IsFileOf folder files path = IsNamed folder files.fragments.items path ⊎ IsNamed folder files.descriptions.items path

-- the path of the digests in a folder
abbrev pub sums_path : List ℕ → List ℕ
sums_path folder = folder ++ slash ∷ codes "SHA256SUMS"

-- the paths of a name and of the one at its index of other names
abbrev pub IsPairOf : List ℕ → List (String Global) → List (String Global) → List ℕ → List ℕ → Type 0
IsPairOf folder [] others from to = ⊥
IsPairOf folder (name ∷ names) [] from to = ⊥
IsPairOf folder (name ∷ names) (other ∷ others) from to =
    IsPair (path_of folder name) (path_of folder other) from to ⊎ IsPairOf folder names others from to

-- the paths of a stripe's file and of the other stripe's one that it replaces
abbrev pub Replaces : List ℕ → StripeFiles → StripeFiles → List ℕ → List ℕ → Type 0
Replaces folder files others from to =
    IsPairOf folder files.fragments.items others.fragments.items from to
    ⊎ IsPairOf folder files.descriptions.items others.descriptions.items from to

-- None of the paths is one that files have which aren't whole yet, and none that is to get a file has one that another is to get.
pub record CanGive (gives : List ℕ → List ℕ → Type 0) : Type 0 where
  pub lasting : (from to : List ℕ) → gives from to → is_temporary from ≡ false
  pub lasting_too : (from to : List ℕ) → gives from to → is_temporary to ≡ false
  pub apart : (from mid to : List ℕ) → gives from mid → gives mid to → ⊥

-- None of the paths of two stripes' files is one that files have which aren't whole yet, or that of the digests, which is none of those
-- either, and none is of both.
pub record AreApart (folder : List ℕ) (files others : StripeFiles) : Type 0 where
  pub lasting : (path : List ℕ) → IsFileOf folder files path → is_temporary path ≡ false
  pub lasting_too : (path : List ℕ) → IsFileOf folder others path → is_temporary path ≡ false
  pub sums_lasting : is_temporary (sums_path folder) ≡ false
  pub sums : IsFileOf folder files (sums_path folder) → ⊥
  pub sums_too : IsFileOf folder others (sums_path folder) → ⊥
  pub apart : (path : List ℕ) → IsFileOf folder files path → IsFileOf folder others path → ⊥
