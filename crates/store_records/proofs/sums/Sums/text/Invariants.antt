use Rattle.std.proofs.Common.{◌≡◌, map}
use Rattle.std.specs.List.{flat_map}
use Rattle.std.specs.Map.Iter.{deref_pair}
use Rattle.store_records.specs.SumLines.{sum_line}
use Rattle.store_records.proofs.sums.Sums.text.Given as goal

abbrev pub invariant-loop-name : goal.invariant-loop-name
invariant-loop-name l = l.text.items ≡ flat_map (λ e. sum_line e.0.items e.1) (map deref_pair l.yielded)
