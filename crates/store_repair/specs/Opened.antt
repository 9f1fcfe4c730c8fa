-- The fragments of a stripe that were opened, by the places' indexes.
use Rattle.std.specs.Prelude.{◌≡◌, ◌<◌, ℕ, List, Bool, true, is_some, slice_index_or, Option, Some, None, All, AllPairs, false}
use Rattle.std.specs.Prelude.{length, IfSome, ◌&&◌}
use Rattle.lrc_code.specs.declared.places.Place.{Place}
use Rattle.lrc_code.specs.declared.places.Place.TheVariants.{X0}
use Rattle.lrc_code.specs.declared.codes.Code.{Code as CodeName}
use Rattle.lrc_code.specs.Code.{has_place}
use Rattle.lrc_code.specs.Codes.{tables_of}
use Rattle.lrc_code.specs.Places.{all_places, index_of, same_place}
use Rattle.lrc_code.specs.Sets.{is_in}
use Rattle.lrc_plan.specs.Stripes.{at_place, IsRebuilt}
use Rattle.store_repair.specs.Mended.{AreLost}
use Rattle.store_repair.specs.Scrubbed.{AreOfOneStripe}
use Rattle.stores.specs.Store.{Files, HasName, IsOpened, ShownFiles}
use Rattle.stores.specs.Stripes.{has_file}
use Rattle.stores.specs.declared.store.Placed.TheVariants as placed
use Rattle.stores.specs.declared.stripes.Found.{Found as FoundName}

-- the place of an index
abbrev pub nth_place : ℕ → Place
nth_place k = slice_index_or all_places k X0

-- what is known of the fragment at a place: where it was opened, its place is the code's, and it has the bytes under its name
abbrev pub IsOpenedAt : {F : Type 0} → (F → Option (List ℕ)) → CodeName → List ℕ → ℕ → ShownFiles → Place → Option F → Type 0
IsOpenedAt shown code stripe len files p None = Unit {0}
IsOpenedAt shown code stripe len files p (Some f) = (has_place (tables_of code) p ≡ true) × IsOpened stripe p len files (shown f)

-- a set is that of the places whose fragments were opened
abbrev pub IsSetOf : {F : Type 0} → List Bool → List (Option F) → Type 0
IsSetOf set fragments = (p : Place) → is_in set p ≡ is_some (slice_index_or fragments (index_of p) None)

-- the fragments of a stripe, of which some were opened
pub record AreOpened {F : Type 0} (shown : F → Option (List ℕ)) (code : CodeName) (stripe : List ℕ) (len : ℕ) (files : ShownFiles)
    (set : List Bool) (fragments : List (Option F)) : Type 0 where
  pub set_of : IsSetOf set fragments
  pub each : (k : ℕ) → k < length fragments → IsOpenedAt shown code stripe len files (nth_place k) (slice_index_or fragments k None)

-- a name has so many bytes
abbrev pub IsThereWith : List ℕ → ℕ → Files → Place → Type 0
IsThereWith stripe len files p = (bytes : List ℕ) × (files.fragments stripe p ≡ Some bytes) × (length bytes ≡ len)

-- each place of a set is the code's, and a file of the stripe's length was found there
abbrev pub AreFound : CodeName → List FoundName → ℕ → (Place → Bool) → Type 0
AreFound code files len survives = (p : Place) → survives p ≡ true → (has_place (tables_of code) p && has_file files len p) ≡ true

-- no place is listed twice
abbrev pub AreApart : List Place → Type 0
AreApart places = AllPairs (λ p q. same_place p q ≡ false) places

-- bytes at a place are the only ones that fit the fragments under the names of some places
abbrev pub IsOnlyOne : CodeName → (Place → Bool) → ℕ → List ℕ → Files → Place → List ℕ → Type 0
IsOnlyOne code survives len stripe files p bytes =
    (at : List (List ℕ)) × ((q : Place) → survives q ≡ true → files.fragments stripe q ≡ Some (at_place at q))
    × IsRebuilt (tables_of code) survives (at_place at) len p bytes

-- each file, where it is shown, holds the only bytes that fit, at the place of its index
abbrev pub AreOnlyOnes : {N : Type 0} → (N → Option (List ℕ)) → CodeName → (Place → Bool) → ℕ → List ℕ → Files → List Place → List N
    → Type 0
AreOnlyOnes shown code survives len stripe old places files =
    (k : ℕ) (d : Place) (e : _) → k < length files
    → IfSome (shown (slice_index_or files k e)) (IsOnlyOne code survives len stripe old (slice_index_or places k d))

-- Files that were made for lost places of a stripe: where the store's files are shown, the survivors, of which there is one, are those of
-- one stripe, and each file holds the only bytes that fit them.
pub record AreMade {N : Type 0} (shown : N → Option (List ℕ)) (code : CodeName) (survives : Place → Bool) (len : ℕ) (stripe : List ℕ)
    (files : ShownFiles) (places : List Place) (made : List N) : Type 0 where
  pub lengths : length made ≡ length places
  pub apart : AreApart places
  pub lost : AreLost code survives places
  pub used : 0 < length made → (q : Place) × (survives q ≡ true)
  pub possible : IfSome files (AreOfOneStripe code survives len stripe)
  pub only : IfSome files (λ old. AreOnlyOnes shown code survives len stripe old places made)

-- a name has the bytes of the file at the index of its place, where these are shown
abbrev pub IsPutOf : {N : Type 0} → (N → Option (List ℕ)) → List Place → List N → List ℕ → ShownFiles → Place → Type 0
IsPutOf shown places made stripe files p =
    (k : ℕ) × (k < length made) × ((d : Place) → slice_index_or places k d ≡ p)
    × ((e : _) → HasName stripe p (shown (slice_index_or made k e)) files placed.Placed)

-- a name has bytes that are the only ones that fit, where the files are shown
abbrev pub IsRebuiltAt : CodeName → (Place → Bool) → ℕ → List ℕ → Files → ShownFiles → Place → Type 0
IsRebuiltAt code survives len stripe old None p = Unit {0}
IsRebuiltAt code survives len stripe old (Some new) p =
    (bytes : List ℕ) × (new.fragments stripe p ≡ Some bytes) × IsOnlyOne code survives len stripe old p bytes

-- What a repair leaves at the places that it says are rebuilt: under each name the only bytes that fit the fragments that were there
-- before, at the places of the survivors that were used.
abbrev pub AreRebuilt : CodeName → (Place → Bool) → ℕ → List ℕ → ShownFiles → ShownFiles → List Place → Type 0
AreRebuilt code survives len stripe None new places = Unit {0}
AreRebuilt code survives len stripe (Some old) new places = All (IsRebuiltAt code survives len stripe old new) places
