-- What keeps the files of runs apart from all others.
use Rattle.std.specs.Prelude.{◌≡◌, ℕ, ◌<◌, ◌^◌, List, ◌∷◌, ◌++◌}
use Rattle.lrc_code.specs.declared.places.Place.{Place}
use Rattle.lrc_code.specs.declared.codes.Code.{Code as CodeName}
use Rattle.store_names.specs.declared.patterns.Pattern.{Pattern}
use Rattle.store_names.specs.Names.{IsNameOf}
use Rattle.store_names.specs.RunFiles.{IsLeftBy, IsLock, IsOfUnfinished, tag_of}

-- no fragment has the name of an unfinished file, in whichever folder
abbrev pub UnfinishedIsNoFragment : Type 0
UnfinishedIsNoFragment = (p : Pattern) (code : CodeName) (stripe : List ℕ) (place : Place) (name : List ℕ) → IsOfUnfinished name
    → ¬ IsNameOf p code stripe place name × ((folder : List ℕ) → ¬ IsNameOf p code stripe place (folder ++ (47 ∷ name)))

-- what a run of a part may have left is an unfinished file, no lock, and none that a run of another part may have left
pub record LeavesOnlyItsOwn (index of : ℕ) : Type 0 where
  pub unfinished : 0 < index → 0 < of → (name : List ℕ) → IsLeftBy (tag_of index of) name → IsOfUnfinished name
  pub no_lock : (name : List ℕ) → IsLeftBy (tag_of index of) name → ¬ IsLock name
  pub no_other : (other others : ℕ) → other < 2 ^ 64 → others < 2 ^ 64 → (name : List ℕ) → IsLeftBy (tag_of index of) name
      → IsLeftBy (tag_of other others) name → (other ≡ index) × (others ≡ of)

abbrev pub EachLeavesOnlyItsOwn : Type 0
EachLeavesOnlyItsOwn = (index of : ℕ) → index < 2 ^ 64 → of < 2 ^ 64 → LeavesOnlyItsOwn index of

-- a lock is no unfinished file
abbrev pub LockIsWhole : Type 0
LockIsWhole = (name : List ℕ) → IsLock name → ¬ IsOfUnfinished name
