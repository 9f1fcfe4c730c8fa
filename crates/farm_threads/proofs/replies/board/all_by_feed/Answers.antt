use Rattle.std.proofs.Common.{rules, ◌∙◌, ℕ, List, [], ◌∷◌, ◌++◌, vec_items, ap, sym, subst, append_assoc, Option, Vec, Global}
use Rattle.std.specs.List.{AllZip}
use Rattle.farm_threads.specs.Replies.{Entry}
use Rattle.farm_threads.specs.Boards.{filled, IsOutcomeOf}
use Rattle.lrc_code.specs.declared.outcomes.Outcome.{Outcome}
use Rattle.farm_orders.proofs.Members.{all_zip_push}
use Rattle.farm_threads.proofs.replies.board.all_by_feed.Goals as goal

AnswersRow : List (Option Entry) → Vec (ℕ × Outcome) Global → Type 0
AnswersRow row answers = AllZip IsOutcomeOf (filled row) (vec_items answers)

pub loop-row-preserved : goal.loop-row-preserved
unfolding AnswersRow
loop-row-preserved c =
    let was = c.loop-row.invariant in let done = c.loop-row.yielded in let step = c.in-Some.ensures.steps.0 in (
      rw append_assoc (was.0 ∙ ap (λ (t : List (List (Option Entry))). done ++ t) step),
      subst (λ (vs : List (Vec (ℕ × Outcome) Global)). AllZip AnswersRow (done ++ c.in-Some.row ∷ []) vs)
          (sym c.push_reserved.ensures.items)
          (all_zip_push AnswersRow done (vec_items c.loop-row.all) c.in-Some.row c.in_ok-filled_by_feed.field-0 was.1
          c.in_ok-filled_by_feed.ensures),
      search rules,
      search rules,
    )
