use Rattle.std.proofs.Common.{◌<◌}
use Rattle.lrc_code.specs.declared.places.Place.{Place}
use Rattle.lrc_code.specs.Places.{index_of}
use Rattle.lrc_code.specs.Sets.{is_in}
use Rattle.store_repair.specs.Damage.{IsDetermined, IsOneDetermined, without}
use Rattle.store_repair.proofs.damage.is_suspect.Given as goal

abbrev pub invariant-loop-index : goal.invariant-loop-index
invariant-loop-index l = record {
  alone : IsDetermined l.code (is_in l.left) l.other;
  paired : (f : Place) → index_of f < l.index → IsOneDetermined l.code (without l.code (is_in l.left) f) l.other l.place;
}
