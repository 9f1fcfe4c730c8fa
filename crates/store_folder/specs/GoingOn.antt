-- A repair that begins with what a crash left of another one.
use Rattle.std.specs.Prelude.{◌≡◌, ◌⊎◌, ℕ, List, true}
use Rattle.folders.specs.Calls.{Answered}
use Rattle.folders.specs.Files.{Files, under}
use Rattle.folders.specs.Kept.{AreKept, IsKept}
use Rattle.folders.specs.Worlds.{World}
use Rattle.stores.specs.Kept.{Given}
use Rattle.store_folder.specs.declared.site.Site.{Site}
use Rattle.store_folder.specs.Kept.{IsOneOf, IsTemporary}

-- after these calls each path of ours but temporary ones has what it has among these files, as it is seen and as a crash leaves it
abbrev pub Has : World → List Answered → Files → Type 0
Has w calls files =
    (path : List ℕ) → w.ours path ≡ true → (IsTemporary path → ⊥)
    → (under (w.seen calls) path ≡ under files path) × (under (w.left calls) path ≡ under files path)

-- A run that begins with all of its files on the disk, and that a crash ends after some of its calls, and another one that begins with what
-- the crash left, up to any moment: each keeps what is there, and may give a stripe's fragments these bytes at paths at which nothing is.
pub record AreRuns (site : Site) (stripe : List ℕ) (first second : Given) (w later : World) (old calls run start new rerun : List Answered)
    : Type 0 where
  pub at_rest : Has w old (w.seen old)
  pub stopped : AreKept IsTemporary (IsOneOf site stripe first run) w old calls
  pub ours : (path : List ℕ) → later.ours path ≡ w.ours path
  pub starts : Has later start (w.left calls)
  pub again : AreKept IsTemporary (IsOneOf site stripe second rerun) later start new

-- After both each path has what it had before both, or, if it had nothing, all the bytes that one of them gave the fragment.
abbrev pub GoesOn : Type 0
GoesOn =
    (site : Site) (stripe : List ℕ) (first second : Given) (w later : World) (old calls run start new rerun : List Answered)
    → AreRuns site stripe first second w later old calls run start new rerun → (path : List ℕ) → w.ours path ≡ true
    → (IsTemporary path → ⊥)
    → let given = λ (p bytes : List ℕ). IsOneOf site stripe first run p bytes ⊎ IsOneOf site stripe second rerun p bytes in
    IsKept given (w.seen old) (w.seen old) (later.seen new) path × IsKept given (w.seen old) (w.seen old) (later.left new) path
