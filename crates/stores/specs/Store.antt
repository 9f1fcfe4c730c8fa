-- A store: the bytes under the names of its fragments, and what its calls do to them.
use Rattle.std.specs.Prelude.{◌≡◌, ◌⊎◌, ℕ, List, length, Bool, true, false, Option, Some, None}
use Rattle.std.specs.Prelude.{bytes_eq}
use Rattle.lrc_code.specs.declared.places.Place.{Place}
use Rattle.lrc_code.specs.Code.{AreBytes}
use Rattle.lrc_code.specs.Places.{same_place}
use Rattle.stores.specs.declared.store.Placed.{Placed as PlacedName}
use Rattle.stores.specs.declared.store.Placed.TheVariants as placed

-- the bytes of a stripe's fragment at a place, where it is there
abbrev pub Names : Type 0
Names = List ℕ → Place → Option (List ℕ)

-- the fragments of a store, and those that were replaced, each under its second name
pub record Files : Type 0 where
  pub fragments : Names
  pub kept : Names

-- the files, where they are shown
abbrev pub ShownFiles : Type 0
ShownFiles = Option Files

-- every name that has bytes keeps them
abbrev pub KeepsAll : Names → Names → Type 0
KeepsAll old new = (stripe : List ℕ) (place : Place) (bytes : List ℕ) → old stripe place ≡ Some bytes → new stripe place ≡ Some bytes

-- What a call leaves that may give names to fragments of one stripe, and may replace some of them: the other stripes are as they were,
-- what is kept stays, and each fragment that was there is there, or was replaced where that was asked for, and then is kept.
pub record IsUntouched (replace : Bool) (stripe : List ℕ) (old : Files) (new : Files) : Type 0 where
  pub others : (s : List ℕ) (p : Place) → bytes_eq stripe s ≡ false → new.fragments s p ≡ old.fragments s p
  pub others_kept : (s : List ℕ) (p : Place) → bytes_eq stripe s ≡ false → new.kept s p ≡ old.kept s p
  pub kept : KeepsAll old.kept new.kept
  pub stays : replace ≡ false → KeepsAll old.fragments new.fragments
  pub replaced : (p : Place) (bytes : List ℕ) → old.fragments stripe p ≡ Some bytes
      → (new.fragments stripe p ≡ Some bytes) ⊎ (new.kept stripe p ≡ Some bytes)

-- the same of files that are shown; they stay shown, and others stay unshown
abbrev pub AreUntouched : Bool → List ℕ → ShownFiles → ShownFiles → Type 0
AreUntouched replace stripe None None = Unit {0}
AreUntouched replace stripe None (Some new) = ⊥
AreUntouched replace stripe (Some old) None = ⊥
AreUntouched replace stripe (Some old) (Some new) = IsUntouched replace stripe old new

-- the fragments of a stripe at other places than this one are as they were
abbrev pub SameElsewhere : List ℕ → Place → ShownFiles → ShownFiles → Type 0
SameElsewhere stripe place None None = Unit {0}
SameElsewhere stripe place None (Some new) = ⊥
SameElsewhere stripe place (Some old) None = ⊥
SameElsewhere stripe place (Some old) (Some new) =
    (p : Place) → same_place place p ≡ false → new.fragments stripe p ≡ old.fragments stripe p

-- a name has these bytes, where the files are shown
abbrev pub IsThere : List ℕ → Place → List ℕ → ShownFiles → Type 0
IsThere stripe place bytes None = Unit {0}
IsThere stripe place bytes (Some files) = files.fragments stripe place ≡ Some bytes

-- what is said of a file that was to get a name: where it has it, the name has the file's bytes, if these are shown
abbrev pub HasName : List ℕ → Place → Option (List ℕ) → ShownFiles → PlacedName → Type 0
HasName stripe place None new outcome = Unit {0}
HasName stripe place (Some bytes) new placed.Placed = IsThere stripe place bytes new
HasName stripe place (Some bytes) new placed.IsThere = Unit {0}

-- a fragment that was opened: where the files are shown, it is shown with the bytes under its name, so many as were asked for
abbrev pub IsOpened : List ℕ → Place → ℕ → ShownFiles → Option (List ℕ) → Type 0
IsOpened stripe place len None shown = Unit {0}
IsOpened stripe place len (Some files) shown =
    (bytes : List ℕ) × (files.fragments stripe place ≡ Some bytes) × (length bytes ≡ len) × AreBytes bytes × (shown ≡ Some bytes)

-- what no store shows is nowhere
pub never : {A : Type 0} → false ≡ true → A
never e = absurd (cc)
