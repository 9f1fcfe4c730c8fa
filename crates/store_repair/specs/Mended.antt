-- What mending a stripe leaves.
use Rattle.std.specs.Prelude.{◌≡◌, ◌<◌, ℕ, List, length, slice_index_or, All, Bool, true, false, Option, Some, None}
use Rattle.lrc_code.specs.declared.places.Place.{Place}
use Rattle.lrc_code.specs.declared.codes.Code.{Code as CodeName}
use Rattle.lrc_code.specs.Code.{has_place}
use Rattle.lrc_code.specs.Codes.{tables_of}
use Rattle.lrc_plan.specs.Stripes.{at_place, IsContradiction, IsPossible, IsRebuilt}
use Rattle.lrc_plan.specs.Planned.{ExtensionsDiffer}
use Rattle.lrc_plan.specs.RowPlans.{IsValueRow}
use Rattle.store_repair.specs.declared.mending.MendFault.{MendFault}
use Rattle.store_repair.specs.declared.mending.MendFault.TheVariants as fault
use Rattle.stores.specs.Shown.{IsEmpty}

-- places of the code that don't survive
abbrev pub AreLost : CodeName → (Place → Bool) → List Place → Type 0
AreLost code survives places = All (λ p. (has_place (tables_of code) p ≡ true) × (survives p ≡ false)) places

-- nothing is written in any file that is shown
abbrev pub AreEmpty : {N : Type 0} → (N → Option (List ℕ)) → List N → Type 0
AreEmpty shown files = All (λ file. IsEmpty (shown file)) files

-- a file, where it is shown, holds the bytes that every stripe of the code with the survivors' bytes has at a place
abbrev pub IsMended : CodeName → (Place → Bool) → List (List ℕ) → ℕ → Place → Option (List ℕ) → Type 0
IsMended code survives at len place None = Unit
IsMended code survives at len place (Some bytes) = IsRebuilt (tables_of code) survives (at_place at) len place bytes

-- each file does, at the place of its index
abbrev pub AreMended : {N : Type 0} → (N → Option (List ℕ)) → CodeName → (Place → Bool) → List (List ℕ) → ℕ → List Place → List N
    → Type 0
AreMended shown code survives at len places files =
    (k : ℕ) (d : Place) (e : _) → k < length files
    → IsMended code survives at len (slice_index_or places k d) (shown (slice_index_or files k e))

-- rows that give the bytes at the places of their indexes
abbrev pub AreValueRows : CodeName → (Place → Bool) → List Place → List (List ℕ) → Type 0
AreValueRows code survives places rows =
    (k : ℕ) (d : Place) (e : List ℕ) → k < length places
    → IsValueRow (tables_of code) survives (slice_index_or places k d) (slice_index_or rows k e)

-- What mending says of fragments that are shown with some bytes: that the lost ones are rebuilt, and some stripe has the survivors' bytes;
-- or that no stripe has them.
abbrev pub IsMendedStripe : {N : Type 0} → (N → Option (List ℕ)) → CodeName → (Place → Bool) → List (List ℕ) → ℕ → List Place → List N
    → Bool → Type 0
IsMendedStripe shown code survives at len places files true =
    IsPossible (tables_of code) survives (at_place at) len × AreMended shown code survives at len places files
IsMendedStripe shown code survives at len places files false = IsContradiction (tables_of code) survives (at_place at) len

-- what a refusal says: that two extensions of the same bytes of the survivors differ at a place; the others say nothing of the code
abbrev pub IsRefused : CodeName → (Place → Bool) → List Place → MendFault → Type 0
IsRefused code survives places (fault.Several index) =
    (index < length places) × ((d : Place) → ExtensionsDiffer (tables_of code) survives (slice_index_or places index d))
IsRefused code survives places fault.OutOfMemory = Unit
IsRefused code survives places (fault.Unread index error) = Unit
IsRefused code survives places (fault.Unwritten index error) = Unit

-- a refusal that says nothing of the code
abbrev pub IsOfSystem : MendFault → Type 0
IsOfSystem (fault.Several index) = ⊥
IsOfSystem fault.OutOfMemory = Unit
IsOfSystem (fault.Unread index error) = Unit
IsOfSystem (fault.Unwritten index error) = Unit

-- what is said of survivors: that some stripe of the code has their bytes, or that none has
abbrev pub IsConsistency : CodeName → (Place → Bool) → List (List ℕ) → ℕ → Bool → Type 0
IsConsistency code survives at len true = IsPossible (tables_of code) survives (at_place at) len
IsConsistency code survives at len false = IsContradiction (tables_of code) survives (at_place at) len
