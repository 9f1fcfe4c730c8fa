use Rattle.std.proofs.Common.{arith, ◌≡◌, ◌∙◌, List, length, map, replicate, take, vec_items, ap, sym, subst, Option, None, [], get_or}
use Rattle.std.proofs.Common.{refl}
use Rattle.std.proofs.lemmas.List.{take_all}
use Rattle.farm_threads.specs.Replies.{Entry, HasShape}
use Rattle.farm_orders.specs.Orders.{before_close}
use Rattle.farm_orders.specs.declared.orders.Order.{Order}
use Rattle.farm_threads.proofs.Tables.{shape_nothing, none_yet}
use Rattle.farm_threads.proofs.replies.collector.Collector.new.Goals as goal

pub invariant_of-result : goal.invariant_of-result
invariant_of-result c =
    let lists = c.lists-lists.result.now in let i = c.loop-list.list-index in
    let whole : take i lists ≡ lists = take_all i lists (omega arith) in
    let rows : List (List Order) → List (List (Option Entry)) =
    λ racks. map (λ orders. replicate (length (before_close orders)) None) racks in
    let all : vec_items c.loop-list.rows ≡ rows c.args.racks.now = c.loop-list.invariant.2 ∙ ap rows (whole ∙ c.lists-lists.ensures.all) in
    subst (λ (t : List (List (Option Entry))). HasShape c.args.racks.now t) (sym all) (shape_nothing c.args.racks.now)

pub returns : goal.returns
returns c =
    let lists = c.lists-lists.result.now in let i = c.loop-list.list-index in
    let whole : take i lists ≡ lists = take_all i lists (omega arith) in
    let rows : List (List Order) → List (List (Option Entry)) =
    λ racks. map (λ orders. replicate (length (before_close orders)) None) racks in
    let all : vec_items c.loop-list.rows ≡ rows c.args.racks.now = c.loop-list.invariant.2 ∙ ap rows (whole ∙ c.lists-lists.ensures.all) in
    (refl, λ r k. ap (λ (t : List (List (Option Entry))). get_or (get_or t r []) k None) all ∙ none_yet c.args.racks.now r k)
