-- What the calls of a store that replace a fragment leave, whenever they end.
use Rattle.std.specs.Prelude.{◌≡◌, ◌⊎◌, ℕ, List, ◌++◌, false, Option, IsSome, codes}
use Rattle.folders.specs.Calls.{Answered}
use Rattle.folders.specs.Exchanged.{Exchanges}
use Rattle.folders.specs.Others.{LeavesOthers}
use Rattle.lrc_code.specs.declared.places.Place.{Place}
use Rattle.store_folder.specs.declared.site.Site.{Site}
use Rattle.store_folder.specs.Kept.{IsPathOf, IsTemporary, KeepsEach}
use Rattle.store_folder.specs.Temporary.{is_temporary}

-- the second path of a fragment that is replaced
abbrev pub second_path : List ℕ → List ℕ
second_path path = path ++ codes ".damaged"

-- the paths that change where a fragment is replaced: its own, its second one and temporary ones
abbrev pub IsTouched : List ℕ → List ℕ → Type 0
IsTouched path p = IsTemporary p ⊎ (p ≡ path) ⊎ (p ≡ second_path path)

-- The path of a fragment has what it had, or all that was written to the new file, and then what was there is at its second path, where
-- nothing was. Each other path but temporary ones has what it had, and a whole file there stays there.
pub record ExchangesOne (path : List ℕ) (written : Option (List ℕ)) (old new : List Answered) : Type 0 where
  pub some : IsSome written
  pub lasting : is_temporary (second_path path) ≡ false
  pub exchanges : Exchanges IsTemporary written path (second_path path) old new
  pub others : LeavesOthers (IsTouched path) old new

-- or no path but temporary ones changes
abbrev pub ReplacesOne : List ℕ → Option (List ℕ) → List Answered → List Answered → Type 0
ReplacesOne path written old new = KeepsEach old new ⊎ ExchangesOne path written old new

-- so it is of the path of a stripe's fragment at a place
pub record Replaces (site : Site) (stripe : List ℕ) (place : Place) (written : Option (List ℕ)) (old new : List Answered) : Type 0 where
  pub path : List ℕ
  pub here : IsPathOf site stripe place path
  pub lasting : is_temporary path ≡ false
  pub at : ReplacesOne path written old new

-- or no path but temporary ones changes
abbrev pub ReplacesIn : Site → List ℕ → Place → Option (List ℕ) → List Answered → List Answered → Type 0
ReplacesIn site stripe place written old new = KeepsEach old new ⊎ Replaces site stripe place written old new
