-- What is noted of stripes by the names that are there.
use Rattle.std.specs.Prelude.{◌≡◌, ◌+◌, ◌-◌, ◌^◌, ◌&&◌, ◌||◌, ℕ, Bool, true, List, Option, Some, None, String, if◌then◌else◌, min}
use Rattle.std.specs.Prelude.{map, slice_set, string_bytes, unwrap_or}
use Rattle.std.specs.BTreeMap.{BTreeMap, get_by_text}
use Rattle.std.specs.BTreeSet.{BTreeSet, contains_text}
use Rattle.std.specs.Str.{bytes_eq}
use Rattle.lrc_code.specs.declared.places.Place.{Place}
use Rattle.lrc_code.specs.Places.{index_of}
use Rattle.stores.specs.declared.stripes.Found.{Found as FoundName}
use Rattle.stores.specs.declared.stripes.StripeFiles.{StripeFiles}
use Rattle.store_names.specs.declared.parts.Part.{Part}
use Rattle.store_names.specs.Parts.{is_of_part}
use Rattle.store_listing.specs.declared.store_stripes.Alone.{Alone}
use Rattle.store_listing.specs.declared.store_stripes.TheConstants.{NO_FILES}

-- a stripe is of the part that is wanted; where none is, all stripes are
abbrev pub is_wanted : Option Part → List ℕ → Bool
is_wanted None stripe = true
is_wanted (Some part) stripe = is_of_part part.index part.of stripe

-- one more, of as many as can be counted
abbrev pub one_more : ℕ → ℕ
one_more count = min (count + 1) (2 ^ 64 - 1)

-- the new set has the texts of the old one, and this text if it is to be put, and no others
abbrev pub Gains : {Y : Type 0} → Bool → List ℕ → BTreeSet (String Y) → BTreeSet (String Y) → Type 0
Gains is_put text old new = (other : List ℕ) → contains_text new other ≡ (contains_text old other || (is_put && bytes_eq text other))

-- files, with what was found at a place
abbrev pub with_found : Place → FoundName → StripeFiles → StripeFiles
with_found place what files = record { found = slice_set files.found (index_of place) what }

-- the new map has at a text the files that the old one has there, or none, and else what that has
abbrev pub Begins : {Y : Type 0} → List ℕ → BTreeMap (String Y) StripeFiles → BTreeMap (String Y) StripeFiles → Type 0
Begins text old new = (other : List ℕ) → get_by_text new other
    ≡ (if bytes_eq text other then Some (unwrap_or (get_by_text old other) NO_FILES) else get_by_text old other)

-- the new map has at a text, if that is to be noted, the files of the old one with what was found at a place, and else what that has
abbrev pub Notes : {Y : Type 0} → Bool → List ℕ → Place → FoundName → BTreeMap (String Y) StripeFiles → BTreeMap (String Y) StripeFiles
    → Type 0
Notes is_noted text place what old new = (other : List ℕ) → get_by_text new other ≡ (if is_noted && bytes_eq text other
    then Some (with_found place what (unwrap_or (get_by_text old other) NO_FILES)) else get_by_text old other)

-- a name at each of some places
abbrev pub at_places : List ℕ → List Place → List (List ℕ × Place)
at_places name places = map (λ p. (name, p)) places

-- the stripe by whose name a file is called, and the place
abbrev pub named : Alone → List ℕ × Place
named alone = (string_bytes alone.stripe, alone.place)
