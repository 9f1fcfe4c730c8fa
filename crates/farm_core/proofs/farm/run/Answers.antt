use Rattle.std.proofs.Common.{◌∙◌, List, map, subst, Vec, Global, Option}
use Rattle.std.specs.List.{AllZip}
use Rattle.lrc_code.specs.declared.outcomes.Outcome.{Outcome}
use Rattle.farm_orders.specs.declared.orders.Order.{Order}
use Rattle.farm_threads.specs.Replies.{Entry}
use Rattle.farm_threads.specs.RunFeeds.{slot_feed}
use Rattle.farm_threads.specs.Boards.{filled, IsOutcomeOf, AreMergedRows}
use Rattle.farm_core.proofs.Merged.{expected_answers, zip_map}
use Rattle.farm_core.proofs.farm.run.Goals as goal

pub returns : goal.returns
returns g c =
    let is = c.in_ok-board.ensures in let b = c.in_ok-board.board in let v = c.in_ok-answers.field-0 in
    expected_answers c.args.racks.now b.table (map (λ (a : Vec Outcome Global). a.items) v.items)
    (subst (λ (l : List (List (List Order))). AreMergedRows l b.table) (is.0 ∙ c.in_ok-room.ensures.racks) is.1)
    (zip_map (λ (row : List (Option Entry)) (outs : List Outcome). AllZip (λ (e : Entry) (o : Outcome). IsOutcomeOf e (slot_feed e.rack, o))
    (filled row) outs) (λ (a : Vec Outcome Global). a.items) b.table v.items c.in_ok-answers.ensures)
