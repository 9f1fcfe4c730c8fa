use Rattle.std.proofs.Common.{arith, ℕ, List, vec_items, subst, Option}
use Rattle.std.specs.Prelude.{IfErr, OnOk}
use Rattle.farm_threads.specs.Replies.{HasCell, Collected, Entry}
use Rattle.farm_threads.specs.Faults.{IsNotEntered, IsRefused}
use Rattle.farm_orders.specs.Orders.{IsServed}
use Rattle.farm_threads.proofs.Entering.{if_err, on_ok, refused}
use Rattle.farm_threads.proofs.Rows.{shape_at}
use Rattle.farm_threads.proofs.replies.collector.Collector.accept.Goals as goal

pub returns-clause-served : goal.returns-clause-served
returns-clause-served c =
    let table = vec_items c.self.inside.rows in
    let racks = c.self.inside.racks.now in
    let len = shape_at racks table c.self.invariant c.args.reply.rack in
    let Q : ℕ × List (List (Option Entry)) → Type 0 = λ p. OnOk c.enter.result (HasCell p.1 p.0 c.args.reply.number) in
    subst (λ (b : Collected). OnOk c.enter.result (IsServed b.racks c.args.reply.rack c.args.reply.number)) c.self.view_is
    (on_ok c.enter.result (λ (h : HasCell table c.args.reply.rack c.args.reply.number). omega arith)
    (subst Q (λ i. (c.rack.ensures i, c.as_mut_slice.ensures.value i)) c.enter.ensures.room))

pub returns-clause-refused : goal.returns-clause-refused
returns-clause-refused c =
    let table = vec_items c.self.inside.rows in
    let racks = c.self.inside.racks.now in
    let Q : ℕ × List (List (Option Entry)) → Type 0 = λ p. IfErr c.enter.result (λ e. IsNotEntered p.1 p.0 c.args.reply e) in
    subst (λ (b : Collected). IfErr c.enter.result (λ e. IsRefused b c.args.reply e)) c.self.view_is
    (if_err (IsNotEntered table c.args.reply.rack c.args.reply) _ c.enter.result (refused racks table c.self.invariant c.args.reply)
    (subst Q (λ i. (c.rack.ensures i, c.as_mut_slice.ensures.value i)) c.enter.ensures.refused))
