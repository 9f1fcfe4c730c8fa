-- A store in memory.
use Rattle.std.specs.Prelude.{◌≡◌, ◌&&◌, ℕ, List, Bool, Option, Some, None, option_map, if◌then◌else◌, bytes_eq, find, string_bytes}
use Rattle.std.specs.Prelude.{IsSome, Result, Ok, Err}
use Rattle.std.specs.declared.io.Error.{Error}
use Rattle.lrc_code.specs.declared.places.Place.{Place}
use Rattle.lrc_code.specs.Places.{same_place}
use Rattle.stores.specs.Store.{Files, Names}
use Rattle.stores.specs.declared.memory.Entry.{Entry}
use Rattle.stores.specs.declared.memory.MemoryStore.{MemoryStore}
use Rattle.stores.specs.declared.memory.MemoryFragment.{MemoryFragment}
use Rattle.stores.specs.declared.store.Placed.{Placed as PlacedName}
use Rattle.stores.specs.declared.store.Placed.TheVariants as placed

-- whether an entry is of a stripe's fragment at a place
abbrev pub is_entry : List ℕ → Place → Entry → Bool
is_entry stripe place e = bytes_eq (string_bytes e.stripe) stripe && same_place e.place place

-- what is under the names of which there are entries; of several of one name the first counts
abbrev pub names_of : List Entry → Names
names_of entries = λ stripe place. option_map (λ e. e.bytes.items) (find (is_entry stripe place) entries)

abbrev pub files_of : MemoryStore → Files
files_of s = record { fragments = names_of s.fragments.items; kept = names_of s.replaced.items }

abbrev pub bytes_of : MemoryFragment → List ℕ
bytes_of f = f.bytes.items

-- names of which one was given these bytes
abbrev pub put_name : Names → List ℕ → Place → List ℕ → Names
put_name names stripe place bytes = λ s p. if bytes_eq stripe s && same_place place p then Some bytes else names s p

-- files of which one fragment was given these bytes
abbrev pub with_fragment : Files → List ℕ → Place → List ℕ → Files
with_fragment files stripe place bytes = record { fragments = put_name files.fragments stripe place bytes; kept = files.kept }

-- files of which one has these bytes under its second name
abbrev pub with_kept : Files → List ℕ → Place → List ℕ → Files
with_kept files stripe place bytes = record { fragments = files.fragments; kept = put_name files.kept stripe place bytes }

-- files of which what was under a name, if anything was, is under its second name
abbrev pub with_old : Files → List ℕ → Place → Option (List ℕ) → Files
with_old files stripe place None = files
with_old files stripe place (Some bytes) = with_kept files stripe place bytes

-- What becomes of bytes that were to get a name: they have it, where nothing was there; else all is as it was.
abbrev pub GivesName : Result PlacedName Error → List ℕ → Place → List ℕ → Files → Files → Type 0
GivesName (Ok placed.Placed) stripe place bytes old new =
    (old.fragments stripe place ≡ None) × (new ≡ with_fragment old stripe place bytes)
GivesName (Ok placed.IsThere) stripe place bytes old new = IsSome (old.fragments stripe place) × (new ≡ old)
GivesName (Err error) stripe place bytes old new = new ≡ old

-- What becomes of bytes that were to get the name of others: they have it, and the others have its second name, where nothing had that;
-- else all is as it was.
abbrev pub ExchangesName : Result PlacedName Error → List ℕ → Place → List ℕ → Files → Files → Type 0
ExchangesName (Ok placed.Placed) stripe place bytes old new =
    (old.kept stripe place ≡ None) × (new ≡ with_fragment (with_old old stripe place (old.fragments stripe place)) stripe place bytes)
ExchangesName (Ok placed.IsThere) stripe place bytes old new = IsSome (old.kept stripe place) × (new ≡ old)
ExchangesName (Err error) stripe place bytes old new = new ≡ old
