-- The names of a stripe's fragments in a folder.
use Rattle.std.specs.Prelude.{◌≡◌, List, ℕ}
use Rattle.std.proofs.Common.{subst, sym}
use Rattle.folders.specs.Calls.{Answered}
use Rattle.stores.specs.Kept.{Given}
use Rattle.store_folder.specs.Changed.{IsChangedIn}
use Rattle.store_folder.specs.Kept.{IsKeptIn}
use Rattle.store_folder.specs.declared.links.Links.TheVariants.{NotFollowed}
use Rattle.store_folder.specs.declared.site.Site.{Site}

-- each is a path of its own below the folder, unless links may lead two of them to one
abbrev pub AreApart : Site → Type 0
AreApart site = site.links ≡ NotFollowed

-- so they are after a stripe's calls that replace nothing
pub apart_kept : (stripe : List ℕ) (given : Given) (old_site new_site : Site) (old new : List Answered)
    → IsKeptIn stripe given old_site new_site old new → AreApart old_site → AreApart new_site
apart_kept stripe given old_site new_site old new kept apart = subst AreApart (sym kept.same) apart

-- and after those that may replace fragments
pub apart_changed : (stripe : List ℕ) (given : Given) (old_site new_site : Site) (old new : List Answered)
    → IsChangedIn stripe given old_site new_site old new → AreApart old_site → AreApart new_site
apart_changed stripe given old_site new_site old new changed apart = subst AreApart (sym changed.same) apart
