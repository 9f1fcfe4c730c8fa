use Rattle.std.proofs.Common.{arith, ◌≡◌, ◌∙◌, List, map, replicate, take, vec_items, ap, sym, subst, Option, None, [], get_or, refl}
use Rattle.std.proofs.lemmas.List.{take_all}
use Rattle.farm_orders.specs.declared.orders.Order.{Order}
use Rattle.farm_threads.specs.Replies.{Entry}
use Rattle.farm_threads.specs.Boards.{HasRooms, most_served}
use Rattle.farm_threads.specs.RunFeeds.{lists_of}
use Rattle.farm_threads.proofs.BoardRows.{rooms_nothing, nothing_held}
use Rattle.farm_threads.proofs.replies.board.Board.new.Goals as goal

pub invariant_of-result : goal.invariant_of-result
invariant_of-result c =
    let racks = lists_of c.args.lists in
    let whole : take c.loop-rack.rack racks ≡ racks = take_all c.loop-rack.rack racks (omega (arith, c.racks-racks.ensures.count)) in
    let rows : List (List (List Order)) → List (List (Option Entry)) = λ racks. map (λ feeds. replicate (most_served feeds) None) racks in
    let all : vec_items c.loop-rack.rows ≡ rows racks = c.loop-rack.invariant.2 ∙ ap rows whole in
    subst (λ (t : List (List (Option Entry))). HasRooms racks t) (sym all) (rooms_nothing racks)

pub returns : goal.returns
returns c =
    let racks = lists_of c.args.lists in
    let whole : take c.loop-rack.rack racks ≡ racks = take_all c.loop-rack.rack racks (omega (arith, c.racks-racks.ensures.count)) in
    let rows : List (List (List Order)) → List (List (Option Entry)) = λ racks. map (λ feeds. replicate (most_served feeds) None) racks in
    let all : vec_items c.loop-rack.rows ≡ rows racks = c.loop-rack.invariant.2 ∙ ap rows whole in
    (refl, λ r k. ap (λ (t : List (List (Option Entry))). get_or (get_or t r []) k None) all ∙ nothing_held racks r k)
