use Rattle.std.proofs.Common.{◌≡◌, ◌≤◌, ◌<◌, ◌*◌, ◌+◌}
use Rattle.farm_reading.specs.Limits.{rack_answers}
use Rattle.std.specs.List.{slice_range}
use Rattle.std.specs.Prelude.{sum_by}
use Rattle.farm_reading.specs.Pieces.{listed_bytes, record_most}
use Rattle.farm_reading.proofs.cutting.end_of_racks.Given as goal

abbrev pub invariant-loop-rack : goal.invariant-loop-rack
invariant-loop-rack l = record {
  bytes : l.bytes ≡ sum_by listed_bytes (slice_range l.racks l.first l.rack);
  few : l.bytes ≤ l.rack * (rack_answers * record_most);
  fits : l.first + 1 < l.rack → l.bytes ≤ l.most;
}
