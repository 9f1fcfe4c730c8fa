-- Which files are a stripe's, which are descriptions, and which are of no stripe.
use Rattle.std.specs.Prelude.{◌≡◌, ◌&&◌, ◌||◌, ℕ, Bool, not, true, List, Some, String, if◌then◌else◌, filter, nat_le}
use Rattle.std.specs.Prelude.{slice_index_or}
use Rattle.std.specs.BTreeMap.{BTreeMap, get_by_text}
use Rattle.std.specs.BTreeSet.{BTreeSet, contains_text}
use Rattle.std.specs.List.{list_all}
use Rattle.std.specs.Str.{bytes_eq}
use Rattle.lrc_code.specs.declared.codes.Code.{Code as CodeName}
use Rattle.lrc_code.specs.declared.places.Place.{Place}
use Rattle.lrc_code.specs.Code.{has_place}
use Rattle.lrc_code.specs.Codes.{tables_of}
use Rattle.lrc_code.specs.Places.{all_places, index_of}
use Rattle.stores.specs.declared.stripes.Found.{Found as FoundName}
use Rattle.stores.specs.declared.stripes.Found.TheVariants as found
use Rattle.stores.specs.declared.stripes.StripeFiles.{StripeFiles}
use Rattle.store_names.specs.declared.patterns.Pattern.{Pattern}
use Rattle.store_names.specs.Descriptions.{Describes, IsDescription}
use Rattle.store_names.specs.Folders.{IsLastOf}
use Rattle.store_names.specs.Names.{IsNameOf}
use Rattle.store_listing.specs.Votes.{is_there, there_count}

-- what was found at a place
abbrev pub at_place : List FoundName → Place → FoundName
at_place files p = slice_index_or files (index_of p) found.Absent

-- ---- descriptions

-- what was found is no file that is longer than this
abbrev pub is_short : ℕ → FoundName → Bool
is_short most found.Absent = true
is_short most (found.File length) = nat_le length most
is_short most found.Dangling = true
is_short most found.Other = true
is_short most (found.Unknown code) = true

-- a name is by its last part that of a description of one of these stripes
pub record IsOfDescribed {Y : Type 0} (described : BTreeSet (String Y)) (name : List ℕ) : Type 0 where
  pub last : List ℕ
  pub stripe : List ℕ
  pub is_last : IsLastOf name last
  pub says : Describes last stripe
  pub is_described : contains_text described stripe ≡ true

-- the name of a stripe's fragment at a place is that of a description of one of these stripes
pub record IsDescriptionOf {Y : Type 0} (described : BTreeSet (String Y)) (p : Pattern) (code : CodeName) (stripe : List ℕ)
    (place : Place) : Type 0 where
  pub file : List ℕ
  pub is_file : IsNameOf p code stripe place file
  pub is_description : IsDescription p code file
  pub is_described : IsOfDescribed described file

-- files are descriptions of these stripes: none is longer than one, and each has the name of one
pub record AreDescriptionsOf {Y : Type 0} (described : BTreeSet (String Y)) (most : ℕ) (p : Pattern) (code : CodeName) (stripe : List ℕ)
    (files : List FoundName) : Type 0 where
  pub are_short : list_all (is_short most) files ≡ true
  pub each : (place : Place) → is_there (at_place files place) ≡ true → IsDescriptionOf described p code stripe place

-- ---- stripes

-- files make a stripe of a code: it is expected, or two are at the code's places
abbrev pub is_stripe : Bool → CodeName → List FoundName → Bool
is_stripe is_expected code files = is_expected || nat_le 2 (there_count code files)

-- own has what files have at a code's places, and nothing at others
abbrev pub IsOwn : CodeName → List FoundName → List FoundName → Type 0
IsOwn code files own = (p : Place) → at_place own p ≡ (if has_place (tables_of code) p then at_place files p else found.Absent)

-- there is something at a place, and it is none of a stripe of a code
abbrev pub is_alone : Bool → CodeName → List FoundName → Place → Bool
is_alone is_stripe code files p = is_there (at_place files p) && not (is_stripe && has_place (tables_of code) p)

-- the places at which something is that is alone
abbrev pub alone_places : Bool → CodeName → List FoundName → List Place
alone_places is_stripe code files = filter (is_alone is_stripe code files) all_places

-- the new map has at a name, if that is a stripe's, what of files is at the code's places, and else what the old one has
pub record Settles {Y : Type 0} (is_stripe : Bool) (code : CodeName) (name : List ℕ) (files : List FoundName)
    (old new : BTreeMap (String Y) StripeFiles) : Type 0 where
  pub own : StripeFiles
  pub is_own : IsOwn code files own.found
  pub each : (other : List ℕ) → get_by_text new other ≡ (if is_stripe && bytes_eq name other then Some own else get_by_text old other)
