use Rattle.std.proofs.Common.{◌<◌, ◌≤◌}
use Rattle.lrc_code.specs.declared.places.Place.{Place}
use Rattle.lrc_code.specs.Places.{index_of}
use Rattle.lrc_code.specs.Sets.{is_in}
use Rattle.store_repair.specs.Damage.{IsDetermined, without}
use Rattle.store_repair.proofs.coverage.is_covered.Given as goal

abbrev pub invariant-loop-index : goal.invariant-loop-index
invariant-loop-index l =
    (e : Place) → index_of e < l.index → (f : Place) → index_of e ≤ index_of f
    → IsDetermined l.code (without l.code (without l.code (is_in l.survivors) e) f) l.place
