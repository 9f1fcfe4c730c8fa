use Rattle.std.proofs.Common.{arith, sym, ◌∙◌}
use Rattle.farm_lists_tests.proofs.SmallLanes.{all_ends}
use Rattle.farm_lists_tests.proofs.between_threads.lanes.run_lane.Goals as goal

pub settle-settled-requires : goal.settle-settled-requires
settle-settled-requires g c =
    let put = c.join-ended.ensures.first in
    let took = c.join-ended.ensures.second in
    let o = rw c.expect-puts.ensures at c.«open».ensures.ends in
    let puts = c.expect-puts.result.0 in
    let takes = c.expect-puts.result.1 in
    let ended = c.join-ended.result.0 in
    let taken = c.join-ended.result.1 in
    all_ends 4 2 _ _ _ _ o (omega arith)
    (sym ended.ok.0 ∙ (put.0 ∙ puts.ok.0))
    (sym taken.ok.0 ∙ (took.0 ∙ takes.ok.0))
    (λ i d e below. put.1 i d e (let l = puts.ok.0 in omega arith))
    (λ i d e below. took.1 i d e (let l = takes.ok.0 in omega arith))
