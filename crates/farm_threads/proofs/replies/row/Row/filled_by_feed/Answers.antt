use Rattle.std.proofs.Common.{rules, arith, ◌≡◌, ◌∙◌, List, ◌∷◌, ◌++◌, map, vec_items, ap, sym, subst, append_assoc, Option, Some, None}
use Rattle.std.specs.List.{AllZip}
use Rattle.std.specs.Option.{option_map}
use Rattle.std.specs.Vec.Iter.{into_iter_items}
use Rattle.std.proofs.lemmas.List.{length_push, map-append}
use Rattle.farm_threads.specs.Replies.{Entry, Replied, entries, entry_of}
use Rattle.farm_threads.specs.RunFeeds.{slot_feed}
use Rattle.farm_threads.specs.Boards.{filled, IsOutcomeOf}
use Rattle.farm_threads.proofs.Middles.{whole_front}
use Rattle.farm_threads.proofs.Rows.{filled_all, filled_front, outcomes_more}
use Rattle.farm_threads.proofs.replies.row.Row.filled_by_feed.Goals as goal

pub returns-in_default : goal.returns-in_default
returns-in_default c =
    let done = c.loop-cell.yielded in let rest = into_iter_items c.next.new.self in let was = c.loop-cell.invariant in let es = was.1.0 in
    let left : into_iter_items c.loop-cell.cell-iterator ≡ None ∷ rest =
    c.in-Some.ensures.steps.0 ∙ ap (λ (x : Option Replied). x ∷ rest) c.in_default.is in
    let cells : vec_items c.self.inside.cells ≡ done ++ None ∷ rest =
    sym c.into_iter-cell-iterator.ensures.into_iter_gives.0 ∙ was.0 ∙ ap (λ (t : List (Option Replied)). done ++ t) left in
    let row : c.args.self ≡ map Some es ++ None ∷ entries rest =
    sym c.self.view_is ∙ (ap entries cells ∙ (map-append (option_map entry_of) done (None ∷ rest)
    ∙ ap (λ (l : List (Option Entry)). l ++ None ∷ entries rest) was.1.1)) in
    subst (λ (l : List Entry). AllZip IsOutcomeOf l c.loop-cell.all.items) (sym (ap filled row ∙ filled_front es (entries rest))) was.1.2

pub loop-cell-preserved : goal.loop-cell-preserved
loop-cell-preserved c =
    let was = c.loop-cell.invariant in let done = c.loop-cell.yielded in let step = c.in-Some.ensures.steps.0 in
    let says = c.in-Some-into_outcome.ensures.done in (
      rw append_assoc (was.0 ∙ ap (λ (t : List (Option Replied)). done ++ t) step),
      outcomes_more IsOutcomeOf done c.in-Some.cell c.in-Some-cell.reply (vec_items c.loop-cell.all) (vec_items c.push_reserved.new.self)
          (c.feed-feed.result, c.in-Some-into_outcome.outcome)
          was.1 c.in-Some-cell.is (c.feed-feed.ensures ∙ ap slot_feed c.rack.ensures, says.1, says.0) c.push_reserved.ensures.items,
      search rules,
      search rules,
      (let a = length_push done c.in-Some.cell in let b = was.4 in let d = c.in-Some.ensures.steps.1 in omega arith),
    )

pub returns : goal.returns
returns c =
    let was = c.loop-cell.invariant in let done = c.loop-cell.yielded in let es = was.1.0 in
    let whole : done ≡ vec_items c.self.inside.cells = whole_front (vec_items c.self.inside.cells) done _
    (sym c.into_iter-cell-iterator.ensures.into_iter_gives.0 ∙ was.0)
    (let a = was.4 in let b = c.in-None.ensures.steps.0 in let d = c.into_iter-cell-iterator.ensures.into_iter_gives.1 in
    let e = c.self.inside.cells.ok in omega arith) in
    let row : c.args.self ≡ map Some es = sym c.self.view_is ∙ (ap entries (sym whole) ∙ was.1.1) in
    subst (λ (l : List Entry). AllZip IsOutcomeOf l c.loop-cell.all.items) (sym (ap filled row ∙ filled_all es)) was.1.2
