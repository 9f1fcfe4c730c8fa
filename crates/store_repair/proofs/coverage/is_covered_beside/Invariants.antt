use Rattle.std.proofs.Common.{◌<◌, ◌≤◌}
use Rattle.lrc_code.specs.declared.places.Place.{Place}
use Rattle.lrc_code.specs.Places.{index_of}
use Rattle.lrc_code.specs.Sets.{is_in}
use Rattle.store_repair.specs.Damage.{IsDetermined, without}
use Rattle.store_repair.proofs.coverage.is_covered_beside.Given as goal

abbrev pub invariant-loop-index : goal.invariant-loop-index
invariant-loop-index l =
    (f : Place) → index_of f < l.index → l.from ≤ index_of f → IsDetermined l.code (without l.code (is_in l.left) f) l.place
