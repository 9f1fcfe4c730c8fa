-- A shelf over a folder.
use Rattle.std.specs.Prelude.{ℕ, List, Option, Some, None, Result, Ok, Err}
use Rattle.std.specs.IoError.{error_kind}
use Rattle.std.specs.declared.io.Error.{Error}
use Rattle.std.specs.declared.io.ErrorKind.{ErrorKind}
use Rattle.std.specs.declared.io.ErrorKind.TheVariants as kind
use Rattle.std.specs.String.{string_bytes}
use Rattle.farm_shelves.specs.declared.folder.FolderShelf.{FolderShelf}
use Rattle.farm_shelves.specs.declared.shelf.ShelfFault.{ShelfFault}
use Rattle.farm_shelves.specs.declared.shelf.ShelfFault.TheVariants as fault

abbrev pub folder_failed : {R : Type 0} → FolderShelf R → ℕ
folder_failed s = s.failed

abbrev pub folder_path : {R : Type 0} → FolderShelf R → List ℕ
folder_path s = string_bytes s.path

-- what a reader makes of the kind of the system's error
abbrev pub kind_fault : ErrorKind → ShelfFault
kind_fault kind.OutOfMemory = fault.OutOfMemory
kind_fault _ = fault.Device

-- what the kind of an error says of a name: no file where it was not found, and else a fault
abbrev pub found_by_kind : {A : Type 0} → ErrorKind → Result (Option A) ShelfFault
found_by_kind kind.NotFound = Ok None
found_by_kind k = Err (kind_fault k)

-- what the system's answer says of a name
abbrev pub found : {A : Type 0} → Result A Error → Result (Option A) ShelfFault
found (Ok there) = Ok (Some there)
found (Err e) = found_by_kind (error_kind e)
