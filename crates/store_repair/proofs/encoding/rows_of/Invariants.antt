use Rattle.std.proofs.Common.{◌≡◌, map}
use Rattle.std.specs.List.{range_with_len}
use Rattle.store_repair.specs.Files.{unit_row}
use Rattle.store_repair.proofs.encoding.rows_of.Given as goal

abbrev pub invariant-loop-index : goal.invariant-loop-index
invariant-loop-index l = l.rows.items ≡ map unit_row (range_with_len 0 l.index)
