use Rattle.std.proofs.Common.{◌≡◌, ◌<◌, true}
use Rattle.lrc_code.specs.declared.places.Place.{Place}
use Rattle.lrc_code.specs.Places.{index_of}
use Rattle.lrc_code.specs.Sets.{is_in}
use Rattle.lrc_c.specs.Lent.{lent}
use Rattle.lrc_plan.specs.Stripes.{is_whole_at}
use Rattle.lrc_c.proofs.arguments.are_whole.Given as goal

abbrev pub invariant-loop-i : goal.invariant-loop-i
invariant-loop-i l = (p : Place) → index_of p < l.i → is_whole_at l.code (is_in l.set) (lent l.at) l.len p ≡ true
