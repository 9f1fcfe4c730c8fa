use Rattle.std.proofs.Common.{◌≡◌, map, take}
use Rattle.store_repair.proofs.windows.slices_of.Given as goal

abbrev pub invariant-loop-room : goal.invariant-loop-room
invariant-loop-room l = map (λ s. s.now) l.slices.items ≡ map (λ room. room.items) (take l.room-index l.rooms)
