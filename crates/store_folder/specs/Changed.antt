-- What the calls of a store leave that may replace fragments, whenever they end.
use Rattle.std.specs.Prelude.{◌≡◌, ℕ, List, Some}
use Rattle.folders.specs.Calls.{Answered}
use Rattle.folders.specs.Changed.{Changes}
use Rattle.lrc_code.specs.declared.places.Place.{Place}
use Rattle.stores.specs.Kept.{Given}
use Rattle.store_folder.specs.declared.links.Links.TheVariants.{NotFollowed}
use Rattle.store_folder.specs.declared.site.Site.{Site}
use Rattle.store_folder.specs.Kept.{IsPathOf, IsTemporary}
use Rattle.store_folder.specs.Replaced.{second_path}

-- the path of one of a stripe's fragments, and the bytes that this was given
abbrev pub IsGivenAt : Site → List ℕ → Given → List ℕ → List ℕ → Type 0
IsGivenAt site stripe given path bytes = (place : Place) × IsPathOf site stripe place path × (given place ≡ Some bytes)

-- Unless links are followed: whenever the calls ended, each path but temporary ones had what it had, or it is that of one of a stripe's
-- fragments and had all the bytes that this was given, and then what was there was at its second path. At a second path there was what was
-- there, or, if nothing was, the file of the first.
pub record IsChangedIn (stripe : List ℕ) (given : Given) (old_site : Site) (new_site : Site) (old : List Answered) (new : List Answered)
    : Type 0 where
  pub same : new_site ≡ old_site
  pub changes : old_site.links ≡ NotFollowed → Changes IsTemporary (IsGivenAt old_site stripe given) second_path old new
