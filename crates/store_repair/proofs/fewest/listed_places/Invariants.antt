use Rattle.std.proofs.Common.{◌≡◌, true}
use Rattle.lrc_code.specs.declared.places.Place.{Place}
use Rattle.lrc_code.specs.Sets.{is_in}
use Rattle.store_repair.proofs.fewest.listed_places.Given as goal

abbrev pub invariant-loop-index : goal.invariant-loop-index
invariant-loop-index g l = (p : Place) → is_in l.set p ≡ true → g.S.Store.listed l.store l.stripe.name.now p
