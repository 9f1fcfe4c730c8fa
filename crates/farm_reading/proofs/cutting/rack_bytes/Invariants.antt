use Rattle.std.proofs.Common.{◌≡◌, ◌≤◌, ◌*◌, take}
use Rattle.farm_orders.specs.Limits.{order_limit}
use Rattle.farm_reading.specs.Pieces.{rack_bytes, record_most}
use Rattle.farm_reading.proofs.cutting.rack_bytes.Given as goal

abbrev pub invariant-loop-index : goal.invariant-loop-index
invariant-loop-index l = record {
  bytes : l.bytes ≡ rack_bytes (take l.index l.lists);
  few : l.bytes ≤ l.index * (order_limit * record_most);
}
