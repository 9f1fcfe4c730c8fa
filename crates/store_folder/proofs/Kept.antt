-- Runs of a store's calls, one after another.
use Rattle.std.proofs.Common.{◌≡◌, inr, ℕ, List, [], ◌∷◌, ◌++◌, subst, sym}
use Rattle.folders.specs.Calls.{Answered, make, sync, link, link_again, rename, rename_again, remove, sync_folder, same_file, absent}
use Rattle.folders.specs.Kept.{Keeps}
use Rattle.folders.specs.Placed.{WasSynced}
use Rattle.folders.proofs.Runs.{keeps_after, keeps_weaker}
use Rattle.std.proofs.Common.{Option, ◌∙◌}
use Rattle.folders.specs.Placed.{IsGiven}
use Rattle.lrc_code.specs.declared.places.Place.{Place}
use Rattle.stores.specs.Kept.{Given}
use Rattle.store_folder.specs.declared.site.Site.{Site}
use Rattle.store_folder.specs.Kept.{GivesIn, IsFragment, IsKeptIn, IsOneOf, IsPathOf, IsTemporary, GivesOne, KeepsEach}

-- what was put on the disk was so after further calls
synced_since : (bytes : List ℕ) (more old : List Answered) → WasSynced bytes old → WasSynced bytes (more ++ old)
synced_since bytes [] old was = was
synced_since bytes ((make path, ok) ∷ more) old was = synced_since bytes more old was
synced_since bytes ((sync file written, ok) ∷ more) old was = inr (synced_since bytes more old was)
synced_since bytes ((link file to, ok) ∷ more) old was = synced_since bytes more old was
synced_since bytes ((link_again from to, ok) ∷ more) old was = synced_since bytes more old was
synced_since bytes ((rename file from to, ok) ∷ more) old was = synced_since bytes more old was
synced_since bytes ((rename_again from to, ok) ∷ more) old was = synced_since bytes more old was
synced_since bytes ((remove path, ok) ∷ more) old was = synced_since bytes more old was
synced_since bytes ((sync_folder path, ok) ∷ more) old was = synced_since bytes more old was
synced_since bytes ((same_file path other, ok) ∷ more) old was = synced_since bytes more old was
synced_since bytes ((absent path, ok) ∷ more) old was = synced_since bytes more old was

pub later : (bytes : List ℕ) (more old new : List Answered) → new ≡ more ++ old → WasSynced bytes old → WasSynced bytes new
later bytes more old new are was = subst (WasSynced bytes) (sym are) (synced_since bytes more old was)

-- after what kept all but what is given, and a call that gives more of it
then_keeps : (P : List ℕ → List ℕ → Type 0) (Q : List Answered → List ℕ → List ℕ → Type 0) (from old new : List Answered)
    → ((path bytes : List ℕ) (more calls all : List Answered) → all ≡ more ++ calls → Q calls path bytes → Q all path bytes)
    → ((path bytes : List ℕ) → P path bytes → Q new path bytes) → Keeps IsTemporary (Q old) from old → Keeps IsTemporary P old new
    → Keeps IsTemporary (Q new) from new
then_keeps P Q from old new since leads first second = keeps_after IsTemporary (Q new) from old new
    (keeps_weaker IsTemporary (Q old) (Q new) (λ path bytes is. since path bytes second.more old new second.are is) from old first)
    (keeps_weaker IsTemporary P (Q new) leads old new second)

one_since : (site : Site) (stripe : List ℕ) (given : Given) (path bytes : List ℕ) (more calls all : List Answered) → all ≡ more ++ calls
    → IsOneOf site stripe given calls path bytes → IsOneOf site stripe given all path bytes
one_since site stripe given path bytes more calls all are one = (
  one.0,
  record { here = one.1.here; synced = later bytes more calls all are one.1.synced },
  one.2,
)

module _ (stripe : List ℕ) (given : Given) (site : Site) (from old new : List Answered) where
  -- a call that gives no name
  pub then_each : (old_site new_site : Site) → new_site ≡ old_site → KeepsEach old new → IsKeptIn stripe given site old_site from old
      → IsKeptIn stripe given site new_site from new
  then_each old_site new_site is each before = record {
    same = is ∙ before.same;
    keeps = then_keeps (λ path bytes. ⊥) (IsOneOf site stripe given) from old new (one_since site stripe given)
        (λ path bytes none. absurd none) before.keeps each;
  }

  -- a call that gives a fragment its name
  pub then_gives : (place : Place) (written : Option (List ℕ)) (old_site new_site : Site) → new_site ≡ old_site → given place ≡ written
      → GivesIn old_site stripe place written old new → IsKeptIn stripe given site old_site from old
      → IsKeptIn stripe given site new_site from new
  then_gives place written old_site new_site is gives here before = record {
    same = is ∙ before.same;
    keeps = then_keeps _ (IsOneOf site stripe given) from old new (one_since site stripe given)
        (λ path bytes one. (
          place,
          subst (λ s. IsFragment s stripe place new path bytes) before.same one.0,
          gives ∙ one.1,
        )) before.keeps here;
  }

-- a fragment that got its name
pub gives_here : (site : Site) (stripe : List ℕ) (place : Place) (written : Option (List ℕ)) (to : List ℕ) (old new : List Answered)
    → IsPathOf site stripe place to → GivesOne to written old new → GivesIn site stripe place written old new
gives_here site stripe place written to old new here keeps = keeps_weaker IsTemporary (IsGiven to written new) _
    (λ path bytes one. (
      record { here = subst (IsPathOf site stripe place) (sym one.here) here; synced = one.synced },
      one.whole,
    )) old new keeps

-- or that got none
pub gives_none : (site : Site) (stripe : List ℕ) (place : Place) (written : Option (List ℕ)) (old new : List Answered)
    → KeepsEach old new → GivesIn site stripe place written old new
gives_none site stripe place written old new keeps =
    keeps_weaker IsTemporary (λ path bytes. ⊥) _ (λ path bytes none. absurd none) old new keeps

-- a run that gives one path bytes, and a call after it that gives none
pub given_then : (to : List ℕ) (written : Option (List ℕ)) (old mid new : List Answered)
    → GivesOne to written old mid → KeepsEach mid new → GivesOne to written old new
given_then to written old mid new first second = keeps_after IsTemporary (IsGiven to written new) old mid new
    (keeps_weaker IsTemporary _ _ (λ path bytes one. record {
      here = one.here;
      whole = one.whole;
      synced = later bytes second.more mid new second.are one.synced;
    }) old mid first)
    (keeps_weaker IsTemporary _ _ (λ path bytes none. absurd none) mid new second)
