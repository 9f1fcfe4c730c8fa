use Rattle.std.proofs.Common.{◌≡◌, ◌≤◌, ◌*◌, ◌+◌, map, take}
use Rattle.farm_reading.specs.Pieces.{listed_bytes, piece, record_most}
use Rattle.farm_reading.proofs.cutting.position_bytes.Given as goal

abbrev pub invariant-loop-index : goal.invariant-loop-index
invariant-loop-index l = record {
  bytes : l.bytes ≡ listed_bytes (piece (map (λ list. list.now) (take l.index l.lists)) l.position (l.position + 1));
  few : l.bytes ≤ l.index * record_most;
}
