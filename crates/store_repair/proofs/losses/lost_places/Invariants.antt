use Rattle.lrc_code.specs.Sets.{is_in}
use Rattle.store_repair.proofs.LostLemmas.{AreSorted}
use Rattle.store_repair.proofs.losses.lost_places.Given as goal

abbrev pub invariant-loop-index : goal.invariant-loop-index
invariant-loop-index l = AreSorted l.code (is_in l.survivors) (is_in l.among) l.index l.determined.items l.several.items
