use Rattle.std.proofs.Common.{List, sym, subst, refl}
use Rattle.farm_lanes.specs.LaneEnds.{PutView, TakeView, AreAllEnds}
use Rattle.farm_lists_tests.proofs.SmallLanes.{one_and_one}
use Rattle.farm_lists_tests.proofs.between_threads.lanes.settle_pair.Goals as goal

pub settle-settled-requires : goal.settle-settled-requires
settle-settled-requires g c =
    let P : List (PutView g.row.T.Denot) × List (TakeView g.row.T.Denot) → Type 0 = λ p. AreAllEnds p.0 p.1 in
    let puts = rw c.expect-puts.ensures at c.from_array.ensures.items in
    let takes = rw c.expect-takes.ensures at c.from_array-2.ensures.items in
    subst P (λ i. (sym puts i, sym takes i))
    (one_and_one c.args.ended.lane c.args.ended c.args.taker c.requires.2 (refl, c.requires.0) c.requires.1)
