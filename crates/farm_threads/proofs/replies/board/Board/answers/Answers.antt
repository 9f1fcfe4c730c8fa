use Rattle.std.proofs.Common.{◌≡◌, ℕ, List, map, vec_items, Vec, Global, Option, IfOk, Ok, Err}
use Rattle.std.specs.List.{AllZip}
use Rattle.lrc_code.specs.declared.outcomes.Outcome.{Outcome}
use Rattle.farm_threads.specs.Replies.{Entry}
use Rattle.farm_threads.specs.RunFeeds.{slot_feed}
use Rattle.farm_threads.specs.Boards.{filled, IsOutcomeOf}
use Rattle.farm_threads.proofs.Rows.{rows_without}
use Rattle.farm_threads.proofs.replies.board.Board.answers.Goals as goal

pub returns : goal.returns
returns c =
    let rows = vec_items c.in_ok-answers.answers in
    elim c.without_feeds.result as
    (λ r. IfOk r (λ (v : Vec (Vec Outcome Global) Global). AllZip (λ (row : Vec (ℕ × Outcome) Global) (answers : Vec Outcome Global).
    answers.items ≡ map (λ (answer : ℕ × Outcome). answer.1) row.items) rows v.items)
    → IfOk r (λ (v : Vec (Vec Outcome Global) Global). AllZip (λ (row : List (Option Entry)) (answers : Vec Outcome Global).
    AllZip (λ (e : Entry) (o : Outcome). IsOutcomeOf e (slot_feed e.rack, o)) (filled row) answers.items) c.args.self.table v.items))
    [ Ok v ↦ λ h. rows_without c.args.self.table rows v.items c.in_ok-answers.ensures h | Err e ↦ λ h. tt ] c.without_feeds.ensures
