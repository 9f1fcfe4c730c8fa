-- Files by their paths.
use Rattle.std.specs.Prelude.{◌≡◌, ◌⊎◌, ℕ, List, [], ◌∷◌, ◌++◌, All, Option, option_map}

-- Which file each path leads to, if one is there, and the bytes of each file. Two paths may lead to one file.
pub record Files : Type 0 where
  pub named : List ℕ → Option ℕ
  pub bytes : ℕ → List ℕ

-- the bytes at a path
abbrev pub under : Files → List ℕ → Option (List ℕ)
under files path = option_map files.bytes (files.named path)

-- the letter between the names of a path
abbrev pub slash : ℕ
slash = 47

abbrev pub dot : ℕ
dot = 46

-- a path is that of a name in a folder: of one below it, of one in the root, or of one in the folder that a program works in
abbrev pub IsIn : List ℕ → List ℕ → Type 0
IsIn folder path = (name : List ℕ) × All (λ letter. letter ≡ slash → ⊥) name
    × ((path ≡ folder ++ slash ∷ name) ⊎ ((folder ≡ slash ∷ []) × (path ≡ slash ∷ name)) ⊎ ((folder ≡ dot ∷ []) × (path ≡ name)))
