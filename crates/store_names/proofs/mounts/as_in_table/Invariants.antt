use Rattle.std.proofs.Common.{◌≡◌, string_bytes}
use Rattle.std.specs.List.{flat_map}
use Rattle.store_names.specs.Mounts.{letter_in_table}
use Rattle.store_names.proofs.mounts.as_in_table.Given as goal

-- the text has the letters so far as the table has them
abbrev pub invariant-loop-letter : goal.invariant-loop-letter
invariant-loop-letter l = string_bytes l.text ≡ flat_map letter_in_table l.yielded
