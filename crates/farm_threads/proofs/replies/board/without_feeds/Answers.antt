use Rattle.std.proofs.Common.{rules, ◌≡◌, ◌∙◌, ℕ, List, [], ◌∷◌, ◌++◌, map, vec_items, ap, sym, subst, append_assoc, Vec, Global}
use Rattle.std.specs.List.{AllZip}
use Rattle.lrc_code.specs.declared.outcomes.Outcome.{Outcome}
use Rattle.farm_orders.proofs.Members.{all_zip_push}
use Rattle.farm_threads.proofs.replies.board.without_feeds.Goals as goal

Outcomes : Vec (ℕ × Outcome) Global → Vec Outcome Global → Type 0
Outcomes row answers = vec_items answers ≡ map (λ (answer : ℕ × Outcome). answer.1) (vec_items row)

pub loop-row-preserved : goal.loop-row-preserved
unfolding Outcomes
loop-row-preserved c =
    let was = c.loop-row.invariant in let done = c.loop-row.yielded in let step = c.in-Some.ensures.steps.0 in (
      rw append_assoc (was.0 ∙ ap (λ (t : List (Vec (ℕ × Outcome) Global)). done ++ t) step),
      subst (λ (vs : List (Vec Outcome Global)). AllZip Outcomes (done ++ c.in-Some.row ∷ []) vs) (sym c.push_reserved.ensures.items)
          (all_zip_push Outcomes done (vec_items c.loop-row.all) c.in-Some.row c.in_ok-outcomes_of.field-0 was.1
          c.in_ok-outcomes_of.ensures),
      search rules,
      search rules,
    )
