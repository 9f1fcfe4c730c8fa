-- What a store has given names, and what of it is on the disk.
use Rattle.std.specs.Prelude.{◌≡◌, ◌⊎◌, ℕ, List, [], ◌∷◌, false, Option, IsSomeAnd, string_bytes}
use Rattle.std.proofs.Common.{String, Global}
use Rattle.folders.specs.Calls.{Answered}
use Rattle.folders.specs.Files.{IsIn}
use Rattle.folders.specs.Disk.{HasWhole, IsOnDisk}
use Rattle.folders.specs.Placed.{WasRefused}
use Rattle.lrc_code.specs.declared.places.Place.{Place}
use Rattle.store_folder.specs.Digests.{IsAsListed}
use Rattle.store_folder.specs.Kept.{IsPathOf}
use Rattle.store_folder.specs.declared.site.Site.{Site}
use Rattle.store_folder.specs.Temporary.{is_temporary}

-- one of the folders is that of a path
abbrev pub HasFolderOf : List ℕ → List (String Global) → Type 0
HasFolderOf path [] = ⊥
HasFolderOf path (folder ∷ more) = IsIn (string_bytes folder) path ⊎ HasFolderOf path more

-- what had one of these folders has one of those
abbrev pub HaveFoldersOf : List (String Global) → List (String Global) → Type 0
HaveFoldersOf folders others = (path : List ℕ) → HasFolderOf path folders → HasFolderOf path others

-- A path leads to a file whose bytes are on the disk, and the path itself is there too, or its folder is one of those whose names are still
-- to be written there.
abbrev pub IsDue : List (String Global) → List Answered → List ℕ → List ℕ → Type 0
IsDue folders calls path bytes = IsOnDisk path bytes calls ⊎ (HasWhole path bytes calls × HasFolderOf path folders)

-- The path of a fragment at a place leads to a whole file of these bytes. Or something else was there when it was to lead to that, and
-- stays. The bytes have the digest that the store's sums say, if they name the fragment.
pub record IsNamed (site : Site) (stripe : List ℕ) (place : Place) (written : Option (List ℕ)) (folders : List (String Global))
    (calls : List Answered) : Type 0 where
  pub path : List ℕ
  pub here : IsPathOf site stripe place path
  pub lasting : is_temporary path ≡ false
  pub due : WasRefused path calls ⊎ IsSomeAnd written (IsDue folders calls path)
  pub listed : IsAsListed site stripe place written

-- The path of a fragment at a place has these bytes, and each crash leaves them there. Or something else was there when it was to have
-- them, and stays. The bytes have the digest that the store's sums say, if they name the fragment.
pub record IsSettled (site : Site) (stripe : List ℕ) (place : Place) (written : Option (List ℕ)) (calls : List Answered) : Type 0 where
  pub path : List ℕ
  pub here : IsPathOf site stripe place path
  pub lasting : is_temporary path ≡ false
  pub done : WasRefused path calls ⊎ IsSomeAnd written (λ bytes. IsOnDisk path bytes calls)
  pub listed : IsAsListed site stripe place written
