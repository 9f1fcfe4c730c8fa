-- The names of the descriptions of stripes.
use Rattle.std.specs.Prelude.{◌≡◌, ℕ, ◌<◌, List, [], ◌∷◌, ◌++◌, length, map, codes, ◌⊎◌}
use Rattle.std.specs.List.{Contains}
use Rattle.lrc_code.specs.declared.codes.Code.{Code as CodeName}
use Rattle.store_names.specs.declared.patterns.Pattern.{Pattern}
use Rattle.store_names.specs.Folders.{AreFolders}

-- a stripe's name in a folder of the store, which is nothing for the store's own, with an ending
abbrev pub description_in : List ℕ → List ℕ → List ℕ → List ℕ
description_in [] stripe ending = stripe ++ ending
description_in (letter ∷ folder) stripe ending = ((letter ∷ folder) ++ (47 ∷ stripe)) ++ ending

-- the last part of a name is that of a description of a stripe: the stripe's name, which isn't empty, and `.file` or `.file.copy`
pub record Describes (last stripe : List ℕ) : Type 0 where
  pub some : 0 < length stripe
  pub is : (last ≡ stripe ++ codes ".file") ⊎ (last ≡ stripe ++ codes ".file.copy")

-- the names of the descriptions in these folders: one in each, and where there is one folder a second one in it
abbrev pub descriptions_in : List (List ℕ) → List ℕ → List (List ℕ)
descriptions_in [] stripe = []
descriptions_in (folder ∷ []) stripe = description_in folder stripe (codes ".file") ∷ description_in folder stripe (codes ".file.copy") ∷ []
descriptions_in (folder ∷ other ∷ more) stripe = map (λ inside. description_in inside stripe (codes ".file")) (folder ∷ other ∷ more)

-- the names of a stripe's descriptions: those in the folders that its fragments are in
pub record AreDescriptions (p : Pattern) (code : CodeName) (stripe : List ℕ) (names : List (List ℕ)) : Type 0 where
  pub folders : List (List ℕ)
  pub are : AreFolders p code stripe folders
  pub is : names ≡ descriptions_in folders stripe

-- a name is that of one of a stripe's descriptions
pub record IsDescription (p : Pattern) (code : CodeName) (name : List ℕ) : Type 0 where
  pub stripe : List ℕ
  pub names : List (List ℕ)
  pub are : AreDescriptions p code stripe names
  pub is : Contains names name
