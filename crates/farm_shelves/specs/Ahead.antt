-- Files that are read ahead.
use Rattle.std.specs.Prelude.{◌≡◌, ℕ, List, take, Option, Some, None, IfSome, Result, Ok, Err}
use Rattle.std.specs.String.{string_bytes}
use Rattle.farm_shelves.specs.declared.ahead.ReadAhead.{ReadAhead}
use Rattle.farm_shelves.specs.declared.ahead.State.{State}
use Rattle.farm_shelves.specs.declared.ahead.State.TheVariants as state
use Rattle.farm_shelves.specs.declared.shelf.ShelfFault.{ShelfFault}

-- the file of this name, up to this limit
abbrev pub IsListedAs : List ℕ → ℕ → ReadAhead → Type 0
IsListedAs name limit file = (string_bytes file.name ≡ name) × (file.limit ≡ limit)

-- what is known of a file: its first bytes, that there is no such file, or nothing
abbrev pub known : State → Option (Option (List ℕ))
known (state.Listed room) = None
known (state.Read bytes) = Some (Some bytes.items)
known (state.Absent room) = Some None
known state.Unread = None

-- what may be known of a file that was opened so: its first bytes where it was opened, and that there is none only where none was found
abbrev pub IsKnown : {F : Type 0} → (F → Option (List ℕ)) → ℕ → Result (Option F) ShelfFault → Option (Option (List ℕ)) → Type 0
IsKnown remaining limit opened None = Unit {0}
IsKnown remaining limit (Ok (Some file)) (Some (Some bytes)) = IfSome (remaining file) (λ all. bytes ≡ take limit all)
IsKnown remaining limit (Ok (Some file)) (Some None) = ⊥
IsKnown remaining limit (Ok None) (Some front) = front ≡ None
IsKnown remaining limit (Err fault) (Some front) = ⊥
