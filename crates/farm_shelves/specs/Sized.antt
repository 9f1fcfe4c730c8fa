-- What an open file gives of which the system says the length.
use Rattle.std.specs.Prelude.{ℕ, zero, suc, ◌+◌, ◌==◌, List, length, Option, Some, None, if◌then◌else◌}
use Rattle.farm_shelves.specs.declared.sized_file.SizedFile.{SizedFile}

-- the bytes that are left, where they are known and the length is true: it is 0, which says nothing, or as many as were read and are left
abbrev pub if_true : ℕ → ℕ → Option (List ℕ) → Option (List ℕ)
if_true said got None = None
if_true zero got (Some left) = Some left
if_true (suc n) got (Some left) = if got + length left == suc n then Some left else None

-- the bytes that an open file gives from here on, those of the file itself, where the length is true
abbrev pub sized_remaining : {F : Type 0} → (F → Option (List ℕ)) → SizedFile F → Option (List ℕ)
sized_remaining remaining s = if_true s.length s.got (remaining s.file)
