use Rattle.std.proofs.Common.{◌≡◌, ◌<◌, true, false}
use Rattle.lrc_code.specs.declared.places.Place.{Place}
use Rattle.lrc_code.specs.Places.{index_of}
use Rattle.lrc_code.specs.Sets.{is_in}
use Rattle.store_repair.specs.Damage.{IsCleared}
use Rattle.store_repair.proofs.damage.other_suspects.Given as goal

abbrev pub invariant-loop-index : goal.invariant-loop-index
invariant-loop-index l =
    (q : Place) → index_of q < l.index → is_in l.others q ≡ true → is_in l.suspects q ≡ false
    → IsCleared l.code (is_in l.others) l.place q
