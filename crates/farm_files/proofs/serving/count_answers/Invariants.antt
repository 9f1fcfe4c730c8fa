use Rattle.std.proofs.Common.{◌≡◌, ◌≤◌, ◌*◌, length, take}
use Rattle.farm_reading.specs.Limits.{rack_answers}
use Rattle.std.specs.Prelude.{sum_by}
use Rattle.farm_files.proofs.serving.count_answers.Given as goal

abbrev pub invariant-loop-rack : goal.invariant-loop-rack
invariant-loop-rack l = record {
  value : l.count ≡ sum_by (λ a. length a.items) (take l.rack-index l.answers);
  small : l.count ≤ rack_answers * l.rack-index;
}
