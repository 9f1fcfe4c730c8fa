-- What a run of calls leaves that gives new files to paths, whenever it ends, where what was at a path is kept at a second one.
use Rattle.std.specs.Prelude.{◌≡◌, ◌⊎◌, ℕ, List, ◌++◌, true, Some, None}
use Rattle.folders.specs.Calls.{Answered}
use Rattle.folders.specs.Files.{Files, under}
use Rattle.folders.specs.Worlds.{World, IsLawful}
use Rattle.folders.specs.Kept.{AtEach, IsSound}
use Rattle.folders.specs.Exchanged.{seen_at}

module _ (temporary : List ℕ → Type 0) (given : List ℕ → List ℕ → Type 0) (second : List ℕ → List ℕ) where
  -- The path was given these bytes and has all of them. Nothing was seen there, or the file that was is at the second path.
  pub record HasGiven (shown old new : Files) (path : List ℕ) : Type 0 where
    pub bytes : List ℕ
    pub gave : given path bytes
    pub here : under new path ≡ Some bytes
    pub kept : (shown.named path ≡ None) ⊎ ((temporary (second path) → ⊥) × (under new (second path) ≡ seen_at shown old path))

  -- The path is the second one of one that was given bytes. Nothing was seen there, and it has the file that was seen at the first.
  pub record HasOld (shown old new : Files) (path : List ℕ) : Type 0 where
    pub first : List ℕ
    pub bytes : List ℕ
    pub gave : given first bytes
    pub is : path ≡ second first
    pub none : shown.named path ≡ None
    pub here : under new path ≡ seen_at shown old first

  -- at a path there is what was there, or what it was given, or, at a second path, what was at the first
  abbrev pub IsChanged : Files → Files → Files → List ℕ → Type 0
  IsChanged shown old new path = (under new path ≡ under old path) ⊎ HasGiven shown old new path ⊎ HasOld shown old new path

  -- So it is of what is seen and of what a crash leaves, at each path of ours that isn't temporary. The file that is seen at one that was
  -- given nothing, and is the second one of none, has what a crash left of it before.
  pub record AreChanged (w : World) (before calls : List Answered) : Type 0 where
    pub seen : (path : List ℕ) → w.ours path ≡ true → (temporary path → ⊥)
        → IsChanged (w.seen before) (w.seen before) (w.seen calls) path
    pub left : (path : List ℕ) → w.ours path ≡ true → (temporary path → ⊥)
        → IsChanged (w.seen before) (w.left before) (w.left calls) path
    pub still : (path : List ℕ) → w.ours path ≡ true → (temporary path → ⊥) → ((bytes : List ℕ) → given path bytes → ⊥)
        → ((first bytes : List ℕ) → given first bytes → path ≡ second first → ⊥)
        → seen_at (w.seen calls) (w.left calls) path ≡ seen_at (w.seen before) (w.left before) path

  -- so it is whenever the run from the old calls to the new ones ends, by a crash or by itself
  pub record Changes (old new : List Answered) : Type 0 where
    pub more : List Answered
    pub are : new ≡ more ++ old
    pub whenever : (w : World) → IsSound temporary w old
        → ((path bytes : List ℕ) → given path bytes → (w.ours path ≡ true) × (w.ours (second path) ≡ true))
        → AtEach (λ calls. IsLawful w calls → IsSound temporary w calls × AreChanged w old calls) more old
