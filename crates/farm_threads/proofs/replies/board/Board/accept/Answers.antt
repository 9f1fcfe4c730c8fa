use Rattle.std.proofs.Common.{ℕ, ◌∙◌, List, vec_items, ap, subst, Option}
use Rattle.std.specs.Prelude.{IfErr}
use Rattle.farm_threads.specs.Boards.{Held, IsNotHeld}
use Rattle.farm_threads.specs.Faults.{IsNotEntered}
use Rattle.farm_threads.specs.Replies.{Entry}
use Rattle.farm_threads.specs.RunFeeds.{lists_of, slot_rack}
use Rattle.farm_threads.proofs.Entering.{if_err, not_held}
use Rattle.farm_threads.proofs.replies.board.Board.accept.Goals as goal

pub returns-clause-refused : goal.returns-clause-refused
returns-clause-refused c =
    let table = vec_items c.self.inside.rows in
    let Q : ℕ × List (List (Option Entry)) → Type 0 = λ p. IfErr c.enter.result (λ e. IsNotEntered p.1 p.0 c.args.reply e) in
    let rack_is = c.rack-2.ensures ∙ ap slot_rack c.rack.ensures in
    subst (λ (b : Held). IfErr c.enter.result (λ e. IsNotHeld b c.args.reply e)) c.self.view_is
    (if_err (IsNotEntered table (slot_rack c.args.reply.rack) c.args.reply) _ c.enter.result
    (not_held (lists_of c.self.inside.lists) table c.self.invariant c.args.reply)
    (subst Q (λ i. (rack_is i, c.as_mut_slice.ensures.value i)) c.enter.ensures.refused))
