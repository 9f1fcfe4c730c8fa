-- The other fragments of a stripe stay where they are while one is replaced.
use Rattle.std.proofs.Common.{◌≡◌, ◌∙◌, ap, inl, inr, subst, sym, ℕ, List, true, false, Option}
use Rattle.std.proofs.Common.{String, Global}
use Rattle.folders.specs.Calls.{Answered}
use Rattle.folders.specs.Others.{StaysAt}
use Rattle.folders.proofs.Others.{stays_kept}
use Rattle.lrc_code.specs.Places.{same_place}
use Rattle.lrc_code.specs.declared.places.Place.{Place}
use Rattle.lrc_code.proofs.PlaceSums.{same_place-refl}
use Rattle.stores.specs.Kept.{StaysBeside}
use Rattle.store_folder.specs.Apart.{AreApart}
use Rattle.store_folder.specs.ChangedOver.{no_second, one_place}
use Rattle.store_folder.specs.Done.{HaveFoldersOf, IsNamed}
use Rattle.store_folder.specs.Kept.{IsPathOf, IsTemporary}
use Rattle.store_folder.specs.Replaced.{IsTouched, ReplacesIn}
use Rattle.store_folder.specs.Stays.{lasts}
use Rattle.store_folder.specs.Temporary.{is_temporary}
use Rattle.store_folder.specs.declared.site.Site.{Site}
use Rattle.store_folder.proofs.Done.{named_at}

module _ (site : Site) (apart : AreApart site) (stripe : List ℕ) (place other : Place) (differs : same_place place other ≡ false)
    (path : List ℕ) (there : IsPathOf site stripe other path) (lasting : is_temporary path ≡ false) where
  -- the path of one at another place isn't touched
  untouched : (first : List ℕ) → IsPathOf site stripe place first → IsTouched first path → ⊥
  untouched first here (inl temporary) = lasts path lasting temporary
  untouched first here (inr (inl same)) =
      let one : place ≡ other = one_place site apart stripe place other path (subst (IsPathOf site stripe place) (sym same) here) there in
      let both : true ≡ false = sym (same_place-refl place) ∙ ap (same_place place) one ∙ differs in cc
  untouched first here (inr (inr second)) = no_second site apart stripe other path first there second

  -- what is there stays
  stays_there : (written : Option (List ℕ)) (old new : List Answered) → ReplacesIn site stripe place written old new
      → StaysAt path old new
  stays_there written old new (inl keeps) = stays_kept IsTemporary (λ p bytes. ⊥) path (lasts path lasting) old new keeps
  stays_there written old new (inr is) = elim is.at as (λ _. StaysAt path old new) [
    | inl keeps ↦ stays_kept IsTemporary (λ p bytes. ⊥) path (lasts path lasting) old new keeps
    | inr one ↦ one.others path (untouched is.path is.here)
  ]

pub named_beside : (old_site new_site : Site) → new_site ≡ old_site → AreApart old_site → (stripe : List ℕ) (place : Place)
    (folders more : List (String Global)) → HaveFoldersOf folders more → (written : Option (List ℕ)) (old new : List Answered)
    → ReplacesIn old_site stripe place written old new
    → StaysBeside stripe place (λ s p bytes. IsNamed old_site s p bytes folders old) (λ s p bytes. IsNamed new_site s p bytes more new)
named_beside old_site new_site same apart stripe place folders more had written old new replaces other bytes differs named =
    named_at old_site new_site same folders old new more had stripe other bytes named
    (stays_there old_site apart stripe place other differs named.path named.here named.lasting written old new replaces)
