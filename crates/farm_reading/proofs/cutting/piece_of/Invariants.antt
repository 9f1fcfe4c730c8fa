use Rattle.std.proofs.Common.{◌≡◌, take, map}
use Rattle.std.specs.List.{slice_range}
use Rattle.farm_reading.proofs.cutting.piece_of.Given as goal

abbrev pub invariant-loop-index : goal.invariant-loop-index
invariant-loop-index l = map (λ list. list.now) l.part.items ≡ map (λ list. slice_range list.now l.first l.end) (take l.index l.lists)
