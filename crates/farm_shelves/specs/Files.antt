-- Files by name, and what a shelf's calls do to them.
use Rattle.std.specs.Prelude.{◌≡◌, ◌+◌, ℕ, List, [], ◌∷◌, take, Option, Some, None, Result, Ok, Err, option_map, false, ◌<◌, length}
use Rattle.std.specs.Prelude.{slice_index_or}
use Rattle.std.specs.Map.{update}
use Rattle.std.specs.Str.{bytes_eq}
use Rattle.farm_shelves.specs.declared.shelf.ShelfFault.{ShelfFault}
use Rattle.farm_shelves.specs.declared.shelf.ShelfFault.TheVariants as fault

-- the bytes of each file that is there, by name
abbrev pub Files : Type 0
Files = List ℕ → Option (List ℕ)

-- the files, where they are shown
abbrev pub Shown : Type 0
Shown = Option Files

-- the files with one replaced
abbrev pub put : Files → List ℕ → List ℕ → Files
put files name bytes = update bytes_eq files name (Some bytes)

-- the files with several replaced, the first first
abbrev pub put_all : Files → List (List ℕ × List ℕ) → Files
put_all files [] = files
put_all files (f ∷ fs) = put_all (put files f.0 f.1) fs

-- all files but this one are as they were
abbrev pub SameBut : List ℕ → Shown → Shown → Type 0
SameBut name None new = Unit {0}
SameBut name (Some old) None = ⊥
SameBut name (Some old) (Some now) = (other : List ℕ) → bytes_eq name other ≡ false → now other ≡ old other

-- the device failed in this call exactly where the call says so
abbrev pub CountsFailure : {A : Type 0} → Result A ShelfFault → ℕ → ℕ → Type 0
CountsFailure (Ok x) before after = after ≡ before
CountsFailure (Err fault.Device) before after = after ≡ before + 1
CountsFailure (Err fault.OutOfMemory) before after = after ≡ before

-- what a write leaves
abbrev pub Writes : Result (Unit {0}) ShelfFault → List ℕ → List ℕ → Shown → Shown → Type 0
Writes (Ok x) name bytes old new = new ≡ option_map (λ files. put files name bytes) old
Writes (Err fault.Device) name bytes old new = SameBut name old new
Writes (Err fault.OutOfMemory) name bytes old new = new ≡ old

-- a write failed: the files before it are put, and nothing is known of its own where the device failed
abbrev pub StopsAt : ShelfFault → List (List ℕ × List ℕ) → ℕ → Shown → Shown → Type 0
StopsAt fault.Device files k old new =
    SameBut (slice_index_or files k ([], [])).0 (option_map (λ m. put_all m (take k files)) old) new
StopsAt fault.OutOfMemory files k old new = new ≡ option_map (λ m. put_all m (take k files)) old

-- the files were written one after the other, up to one whose write failed
abbrev pub StopsWriting : ShelfFault → List (List ℕ × List ℕ) → Shown → Shown → Type 0
StopsWriting f files old new = (k : ℕ) × (k < length files) × StopsAt f files k old new
