-- What a run of calls keeps that gives a new file the path of another one, which a second path keeps, whenever it ends.
use Rattle.std.specs.Prelude.{◌≡◌, ◌≢◌, ◌⊎◌, ℕ, List, ◌∷◌, ◌++◌, Bool, true, false, Option, Some, None, option_map}
use Rattle.folders.specs.Calls.{Answered, link_again, same_file}
use Rattle.folders.specs.Files.{Files, under}
use Rattle.folders.specs.Worlds.{World, IsLawful}
use Rattle.folders.specs.Kept.{AtEach, IsSound}

-- the bytes, among these files, of the file that was seen at a path
abbrev pub seen_at : Files → Files → List ℕ → Option (List ℕ)
seen_at shown files path = option_map files.bytes (shown.named path)

-- the path has all the bytes of the new file, and the file that was seen there is at the second path
pub record HasNew (written : Option (List ℕ)) (path second : List ℕ) (shown old new : Files) : Type 0 where
  pub bytes : List ℕ
  pub whole : written ≡ Some bytes
  pub here : under new path ≡ Some bytes
  pub kept : under new second ≡ seen_at shown old path

-- At the path there is what was there, or the new file, and never that without the old one at the second path. At the second path there is
-- what was there, or, if nothing was seen there, the old one.
pub record IsExchanged (written : Option (List ℕ)) (path second : List ℕ) (shown old new : Files) : Type 0 where
  pub at : (under new path ≡ under old path) ⊎ HasNew written path second shown old new
  pub beside : (under new second ≡ under old second) ⊎ ((shown.named second ≡ None) × (under new second ≡ seen_at shown old path))

-- So it is of what is seen and of what a crash leaves. Each other path of ours that isn't temporary has what it had, and the file that is
-- seen there has what a crash left of it before.
pub record AreExchanged (temporary : List ℕ → Type 0) (written : Option (List ℕ)) (path second : List ℕ) (w : World)
    (before calls : List Answered) : Type 0 where
  pub seen : IsExchanged written path second (w.seen before) (w.seen before) (w.seen calls)
  pub left : IsExchanged written path second (w.seen before) (w.left before) (w.left calls)
  pub others : (p : List ℕ) → w.ours p ≡ true → (temporary p → ⊥) → p ≢ path → p ≢ second
      → (under (w.seen calls) p ≡ under (w.seen before) p) × (under (w.left calls) p ≡ under (w.left before) p)
  pub still : (p : List ℕ) → w.ours p ≡ true → (temporary p → ⊥) → p ≢ path → p ≢ second
      → seen_at (w.seen calls) (w.left calls) p ≡ seen_at (w.seen before) (w.left before) p

-- so it is whenever the run from the old calls to the new ones ends, by a crash or by itself
pub record Exchanges (temporary : List ℕ → Type 0) (written : Option (List ℕ)) (path second : List ℕ) (old new : List Answered)
    : Type 0 where
  pub more : List Answered
  pub are : new ≡ more ++ old
  pub whenever : (w : World) → IsSound temporary w old → w.ours path ≡ true → w.ours second ≡ true
      → AtEach (λ calls. IsLawful w calls → IsSound temporary w calls × AreExchanged temporary written path second w old calls) more old

-- the second path was asked for, for the file of the first, and if it was refused maybe whether they lead to one
abbrev pub WasAsked : List ℕ → List ℕ → List Answered → List Answered → Type 0
WasAsked path second old new =
    (ok : Bool)
    × ((new ≡ (link_again path second, ok) ∷ old) ⊎ (new ≡ (same_file path second, ok) ∷ (link_again path second, false) ∷ old))

-- two paths of ours are seen to lead to one file
abbrev pub LeadToOne : List ℕ → List ℕ → List Answered → Type 0
LeadToOne path second calls =
    (w : World) → IsLawful w calls → w.ours path ≡ true → w.ours second ≡ true → (w.seen calls).named second ≡ (w.seen calls).named path
