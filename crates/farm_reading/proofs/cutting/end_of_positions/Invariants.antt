use Rattle.std.proofs.Common.{◌≡◌, ◌≤◌, ◌<◌, ◌*◌, ◌+◌, map}
use Rattle.farm_reading.specs.Pieces.{listed_bytes, piece, record_most}
use Rattle.farm_reading.proofs.cutting.end_of_positions.Given as goal

abbrev pub invariant-loop-position : goal.invariant-loop-position
invariant-loop-position l = record {
  bytes : l.bytes ≡ listed_bytes (piece (map (λ list. list.now) l.lists) l.first l.position);
  few : l.bytes ≤ l.position * (4 * record_most);
  fits : l.first + 1 < l.position → l.bytes ≤ l.most;
}
