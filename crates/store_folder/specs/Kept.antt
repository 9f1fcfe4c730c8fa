-- What the calls of a store keep of what is in its folder, whenever they end.
use Rattle.std.specs.Prelude.{◌≡◌, ℕ, List, ◌∷◌, ◌++◌, true, Option, Some}
use Rattle.std.proofs.Common.{refl}
use Rattle.folders.specs.Calls.{Answered}
use Rattle.folders.specs.Files.{slash}
use Rattle.folders.specs.Kept.{Keeps}
use Rattle.folders.specs.Placed.{IsGiven, WasSynced}
use Rattle.folders.proofs.Runs.{keeps_all}
use Rattle.lrc_code.specs.declared.places.Place.{Place}
use Rattle.store_names.specs.Names.{IsNameOf}
use Rattle.stores.specs.Kept.{Given}
use Rattle.store_folder.specs.declared.links.Links.TheVariants.{NotFollowed}
use Rattle.store_folder.specs.declared.site.Site.{Site}
use Rattle.store_folder.specs.Temporary.{is_temporary}

abbrev pub IsTemporary : List ℕ → Type 0
IsTemporary path = is_temporary path ≡ true

-- no path but temporary ones changes
abbrev pub KeepsEach : List Answered → List Answered → Type 0
KeepsEach old new = Keeps IsTemporary (λ path bytes. ⊥) old new

-- each path but temporary ones has what it had, or it is this one, had nothing, and has all that was written to a file
abbrev pub GivesOne : List ℕ → Option (List ℕ) → List Answered → List Answered → Type 0
GivesOne to written old new = Keeps IsTemporary (IsGiven to written new) old new

-- The path of a stripe's fragment at a place: its name, below the folder that rebuilt ones are written to. Where links are followed, it is
-- the one that its link leads to, of which nothing is said.
abbrev pub IsPathOf : Site → List ℕ → Place → List ℕ → Type 0
IsPathOf site stripe place path =
    site.links ≡ NotFollowed
    → (name : List ℕ) × (path ≡ site.target.now ++ slash ∷ name) × IsNameOf site.pattern site.code stripe place name

-- the path of a fragment, and bytes that a file was given, which was put on the disk
pub record IsFragment (site : Site) (stripe : List ℕ) (place : Place) (calls : List Answered) (path bytes : List ℕ) : Type 0 where
  pub here : IsPathOf site stripe place path
  pub synced : WasSynced bytes calls

-- each path but temporary ones has what it had, or, if it had nothing and is the fragment's, all that was written to the file
abbrev pub GivesIn : Site → List ℕ → Place → Option (List ℕ) → List Answered → List Answered → Type 0
GivesIn site stripe place written old new =
    Keeps IsTemporary (λ path bytes. IsFragment site stripe place new path bytes × (written ≡ Some bytes)) old new

-- the path of one of a stripe's fragments, and the bytes that this was given
abbrev pub IsOneOf : Site → List ℕ → Given → List Answered → List ℕ → List ℕ → Type 0
IsOneOf site stripe given calls path bytes =
    (place : Place) × IsFragment site stripe place calls path bytes × (given place ≡ Some bytes)

-- Whenever the calls ended, each path but temporary ones had what it had, or, if it had nothing and is that of one of a stripe's fragments,
-- all the bytes that this was given.
pub record IsKeptIn (stripe : List ℕ) (given : Given) (old_site : Site) (new_site : Site) (old : List Answered) (new : List Answered)
    : Type 0 where
  pub same : new_site ≡ old_site
  pub keeps : Keeps IsTemporary (IsOneOf old_site stripe given new) old new

-- nothing was called
pub none_kept : (stripe : List ℕ) (given : Given) (site : Site) (calls : List Answered) → IsKeptIn stripe given site site calls calls
none_kept stripe given site calls = record { same = refl; keeps = keeps_all IsTemporary (IsOneOf site stripe given calls) calls }
