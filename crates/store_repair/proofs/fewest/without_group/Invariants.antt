use Rattle.std.proofs.Common.{◌≡◌, true, All}
use Rattle.lrc_code.specs.declared.places.Place.{Place}
use Rattle.lrc_code.specs.Sets.{is_in}
use Rattle.store_repair.specs.Damage.{IsDetermined}
use Rattle.store_repair.proofs.fewest.without_group.Given as goal

abbrev pub invariant-loop-place : goal.invariant-loop-place
invariant-loop-place l = record {
  own : (p : Place) → is_in l.left p ≡ true → is_in l.fn.set p ≡ true;
  enough : All (IsDetermined l.code (is_in l.fn.set)) l.places → All (IsDetermined l.code (is_in l.left)) l.places;
}
