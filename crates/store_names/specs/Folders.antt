-- The folders of names in a store.
use Rattle.std.specs.Prelude.{◌≡◌, ◌≢◌, ℕ, true, List, [], ◌∷◌, ◌++◌, codes, ◌⊎◌}
use Rattle.std.specs.List.{AllPairs, Contains}
use Rattle.lrc_code.specs.declared.places.Place.{Place}
use Rattle.lrc_code.specs.declared.codes.Code.{Code as CodeName}
use Rattle.lrc_code.specs.Codes.{tables_of}
use Rattle.store_names.specs.declared.patterns.Pattern.{Pattern}
use Rattle.store_names.specs.Names.{IsNameOf}
use Rattle.store_names.specs.Texts.{IsAroundLast, lacks}

-- a name's folder in the store: what is before its last `/`, or nothing, for the store's own, where it has none
pub data IsFolderOf (name folder : List ℕ) : Type 0 where
  own_folder : lacks 47 name ≡ true → folder ≡ [] → IsFolderOf name folder
  folder_before : (last : List ℕ) → IsAroundLast 47 name folder last → IsFolderOf name folder

-- the last part of a name: what is after its last `/`, or all of it where it has none
pub data IsLastOf (name last : List ℕ) : Type 0 where
  whole_name : lacks 47 name ≡ true → last ≡ name → IsLastOf name last
  last_after : (folder : List ℕ) → IsAroundLast 47 name folder last → IsLastOf name last

-- a fragment of a stripe is in a folder: that at one of these places
pub record HasFragmentAt (p : Pattern) (code : CodeName) (places : List Place) (stripe folder : List ℕ) : Type 0 where
  pub place : Place
  pub name : List ℕ
  pub is_place : Contains places place
  pub is_name : IsNameOf p code stripe place name
  pub is_folder : IsFolderOf name folder

-- the same at one of the code's places
abbrev pub HasFragment : Pattern → CodeName → List ℕ → List ℕ → Type 0
HasFragment p code stripe folder = HasFragmentAt p code (tables_of code).places stripe folder

-- the folders that the fragments of a stripe at these places are in, each once
pub record AreFoldersAt (p : Pattern) (code : CodeName) (places : List Place) (stripe : List ℕ) (folders : List (List ℕ)) : Type 0 where
  pub each : (folder : List ℕ) → Contains folders folder → HasFragmentAt p code places stripe folder
  pub all : (folder : List ℕ) → HasFragmentAt p code places stripe folder → Contains folders folder
  pub once : AllPairs (λ one other. one ≢ other) folders

-- the same at the code's places
abbrev pub AreFolders : Pattern → CodeName → List ℕ → List (List ℕ) → Type 0
AreFolders p code stripe folders = AreFoldersAt p code (tables_of code).places stripe folders

-- the folders that the fragments of a stripe `a` are in, if those of a stripe `b` are in the same ones, and none is the store's own
pub record AreDisks (p : Pattern) (code : CodeName) (folders : List (List ℕ)) : Type 0 where
  pub of_a : AreFolders p code (codes "a") folders
  pub of_b : AreFolders p code (codes "b") folders
  pub not_own : ¬ Contains folders []

-- there are no such ones
pub record AreNoDisks (p : Pattern) (code : CodeName) : Type 0 where
  pub folders : List (List ℕ)
  pub others : List (List ℕ)
  pub of_a : AreFolders p code (codes "a") folders
  pub of_b : AreFolders p code (codes "b") others
  pub is : (folders ≢ others) ⊎ Contains folders []

-- a folder was put behind some, unless it was among them
pub data IsAdded (old : List (List ℕ)) (folder : List ℕ) (new : List (List ℕ)) : Type 0 where
  was_there : Contains old folder → new ≡ old → IsAdded old folder new
  put_behind : ¬ Contains old folder → new ≡ old ++ (folder ∷ []) → IsAdded old folder new
