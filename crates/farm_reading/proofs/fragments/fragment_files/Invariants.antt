use Rattle.std.proofs.Common.{◌≡◌, take, map, flat_map}
use Rattle.farm_reading.specs.Ahead.{fragment_reads, named_limit}
use Rattle.farm_reading.proofs.fragments.fragment_files.Given as goal

abbrev pub invariant-loop-index : goal.invariant-loop-index
invariant-loop-index l = map named_limit l.files.items ≡ flat_map (λ r. fragment_reads r.now) (take l.index l.requests)
