use Rattle.std.proofs.Common.{◌≡◌, take, map}
use Rattle.farm_reading.specs.Pieces.{through_close}
use Rattle.farm_reading.proofs.cutting.lists_through_close.Given as goal

abbrev pub invariant-loop-index : goal.invariant-loop-index
invariant-loop-index l = map (λ list. list.now) l.cut.items ≡ map (λ list. through_close list.items) (take l.index l.lists)
