use Rattle.std.proofs.Common.{◌≡◌, ◌++◌, drop}
use Rattle.std.specs.Prelude.{option_map}
use Rattle.store_records.specs.ReadLines.{unescaped, unescaped_after}
use Rattle.store_records.proofs.sums.unescaped.Given as goal

abbrev pub invariant-loop-byte : goal.invariant-loop-byte
invariant-loop-byte l =
    option_map (λ rest. l.name.items ++ rest) (unescaped_after l.is_after_backslash (drop l.byte-index l.text)) ≡ unescaped l.text
