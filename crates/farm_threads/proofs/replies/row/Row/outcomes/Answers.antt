use Rattle.std.proofs.Common.{rules, ◌≡◌, ◌∙◌, List, ◌∷◌, ◌++◌, length, vec_items, ap, sym, subst, append_assoc, Option, None}
use Rattle.std.specs.Vec.Iter.{into_iter_items}
use Rattle.farm_threads.specs.Replies.{Entry, IsGap, entries, Replied}
use Rattle.farm_threads.proofs.Rows.{gap_at_seam, Answers-more}
use Rattle.farm_threads.proofs.replies.row.Row.outcomes.Goals as goal

-- A cell without a reply would be a gap.
pub unreachable-requires : goal.unreachable-requires
unreachable-requires c =
    let done = c.loop-cell.yielded in let rest = into_iter_items c.next.new.self in
    let left : into_iter_items c.loop-cell.cell-iterator ≡ None ∷ rest =
    c.in-Some.ensures.steps.0 ∙ ap (λ (x : Option Replied). x ∷ rest) c.in_default.is in
    let cells : vec_items c.self.inside.cells ≡ done ++ None ∷ rest =
    sym c.into_iter-cell-iterator.ensures.into_iter_gives.0 ∙ c.loop-cell.invariant.0
    ∙ ap (λ (t : List (Option Replied)). done ++ t) left in
    let row : entries (done ++ None ∷ rest) ≡ c.args.self = ap entries (sym cells) ∙ c.self.view_is in
    c.requires (length done) (subst (λ (r : List (Option Entry)). IsGap r (length done)) row (gap_at_seam done rest))

pub loop-cell-preserved : goal.loop-cell-preserved
loop-cell-preserved c =
    let was = c.loop-cell.invariant in let done = c.loop-cell.yielded in let step = c.in-Some.ensures.steps.0 in
    let says = c.in-Some-into_outcome.ensures.done in (
      rw append_assoc (was.0 ∙ ap (λ (t : List (Option Replied)). done ++ t) step),
      Answers-more done c.in-Some.cell c.in-Some-cell.reply (vec_items c.loop-cell.all)
          (vec_items c.push_reserved.new.self) c.in-Some-into_outcome.outcome
          was.1 c.in-Some-cell.is says.0 says.1 c.push_reserved.ensures.items,
      search rules,
      search rules,
    )
