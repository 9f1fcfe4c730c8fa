-- A shelf in memory.
use Rattle.std.specs.Prelude.{◌≡◌, ◌-◌, ◌/◌, ◌==◌, ℕ, Bool, true, false, List, length, take, Option, None, Some, Result, Ok, Err}
use Rattle.std.specs.Prelude.{option_map, if◌then◌else◌}
use Rattle.std.specs.BTreeMap as tree
use Rattle.farm_shelves.specs.Files.{Files, put}
use Rattle.farm_shelves.specs.declared.shelf.ShelfFault.{ShelfFault}
use Rattle.farm_shelves.specs.declared.shelf.ShelfFault.TheVariants as fault
use Rattle.farm_shelves.specs.declared.memory.MemoryShelf.{MemoryShelf}

abbrev pub files_of : MemoryShelf → Files
files_of s = λ name. option_map (λ v. v.items) (tree.get_by_text s.stored name)

abbrev pub failed_of : MemoryShelf → ℕ
failed_of s = s.failed

-- how many calls are left before the one that fails
abbrev pub fails_in : MemoryShelf → Option ℕ
fails_in s = s.fails_in

-- whether the next call fails
abbrev pub is_due : Option ℕ → Bool
is_due None = false
is_due (Some n) = n == 0

-- the calls left after the next one
abbrev pub due_next : Option ℕ → Option ℕ
due_next None = None
due_next (Some n) = if n == 0 then None else Some (n - 1)

-- the device fails in this call exactly where it is due
abbrev pub FailsWhenDue : {A : Type 0} → Result A ShelfFault → Bool → Type 0
FailsWhenDue (Ok x) due = due ≡ false
FailsWhenDue (Err fault.Device) due = due ≡ true
FailsWhenDue (Err fault.OutOfMemory) due = due ≡ false

-- the device fails in this write exactly where it is due, unless memory is refused
abbrev pub FailsWriteWhenDue : Result (Unit {0}) ShelfFault → Bool → Type 0
FailsWriteWhenDue (Ok x) due = due ≡ false
FailsWriteWhenDue (Err fault.Device) due = due ≡ true
FailsWriteWhenDue (Err fault.OutOfMemory) due = Unit {0}

-- a write that the device fails leaves the first half of its bytes, and one without memory changes nothing
abbrev pub LeavesHalf : ShelfFault → List ℕ → List ℕ → Files → Files → Type 0
LeavesHalf fault.Device name bytes old new = new ≡ put old name (take (length bytes / 2) bytes)
LeavesHalf fault.OutOfMemory name bytes old new = new ≡ old
