use Rattle.std.proofs.Common.{◌≡◌, ◌≤◌, ◌*◌, take}
use Rattle.farm_reading.specs.Pieces.{list_bytes, record_most}
use Rattle.farm_reading.proofs.cutting.list_bytes.Given as goal

abbrev pub invariant-loop-index : goal.invariant-loop-index
invariant-loop-index l = record {
  bytes : l.bytes ≡ list_bytes (take l.index l.list);
  few : l.bytes ≤ l.index * record_most;
}
