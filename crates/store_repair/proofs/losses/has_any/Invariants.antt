use Rattle.std.proofs.Common.{◌≡◌, ◌<◌, false}
use Rattle.lrc_code.specs.declared.places.Place.{Place}
use Rattle.lrc_code.specs.Places.{index_of}
use Rattle.lrc_code.specs.Sets.{is_in}
use Rattle.store_repair.proofs.losses.has_any.Given as goal

abbrev pub invariant-loop-index : goal.invariant-loop-index
invariant-loop-index l = (q : Place) → index_of q < l.index → is_in l.survivors q ≡ false
