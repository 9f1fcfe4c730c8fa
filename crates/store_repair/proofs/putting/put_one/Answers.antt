use Rattle.std.proofs.lemmas.Result.{IfOk-from_err, IfOk-weaker}
use Rattle.store_repair.proofs.GivenLemmas.{placed_more, quiet_more}
use Rattle.store_repair.proofs.KeptLemmas.{if_placed}
use Rattle.std.proofs.Common.{subst, sym}
use Rattle.std.specs.Prelude.{Contains}
use Rattle.store_repair.proofs.NotedLemmas.{named_now, named_still}
use Rattle.store_repair.proofs.putting.put_one.Goals as goal

pub returns-in-Place-clause-named : goal.returns-in-Place-clause-named
returns-in-Place-clause-named g c = IfOk-weaker c.note_placed.result _ _
    (λ b of on. if_placed c.place-outcome.result _ c.place-outcome.ensures.named (of on)) c.note_placed.ensures.placed

pub returns-in-Replace-clause-named : goal.returns-in-Replace-clause-named
returns-in-Replace-clause-named g c = IfOk-weaker c.note_placed-in-Replace.result _ _
    (λ b of on. if_placed c.replace-outcome.result _ c.replace-outcome.ensures.named (of on)) c.note_placed-in-Replace.ensures.placed

pub returns-in-Place-clause-changed : goal.returns-in-Place-clause-changed
returns-in-Place-clause-changed g c = λ given from fresh before. placed_more g.S.Store.kept g.S.Store.changed g.S.Store.kept_same
    g.met.S.Store.changed_then _ given _ _ from _ _ fresh c.place-outcome.ensures.kept before

pub returns-in_err-discard-in-Leave-clause-changed : goal.returns-in_err-discard-in-Leave-clause-changed
returns-in_err-discard-in-Leave-clause-changed g c = λ given from fresh before.
    quiet_more g.S.Store.kept g.S.Store.changed g.S.Store.kept_same g.met.S.Store.changed_then _ given _ _ from _ _
    (c.discard.ensures.kept _) before

pub returns-in_err-note-in-Leave-clause-changed : goal.returns-in_err-note-in-Leave-clause-changed
returns-in_err-note-in-Leave-clause-changed g c = λ given from fresh before.
    quiet_more g.S.Store.kept g.S.Store.changed g.S.Store.kept_same g.met.S.Store.changed_then _ given _ _ from _ _
    (c.discard.ensures.kept _) before

pub returns-in_ok-note-in-Leave-clause-changed : goal.returns-in_ok-note-in-Leave-clause-changed
returns-in_ok-note-in-Leave-clause-changed g c = λ given from fresh before.
    quiet_more g.S.Store.kept g.S.Store.changed g.S.Store.kept_same g.met.S.Store.changed_then _ given _ _ from _ _
    (c.discard.ensures.kept _) before

pub returns-in_default-clause-changed : goal.returns-in_default-clause-changed
returns-in_default-clause-changed g c = λ given from fresh before.
    quiet_more g.S.Store.kept g.S.Store.changed g.S.Store.kept_same g.met.S.Store.changed_then _ given _ _ from _ _
    (c.discard.ensures.kept _) before

pub returns-in_ok-note-in-Leave-clause-grows : goal.returns-in_ok-note-in-Leave-clause-grows
returns-in_ok-note-in-Leave-clause-grows g c = λ p has. named_still _ _ _ p c.in_ok-note-in-Leave.ensures.named
    (subst (λ ps. Contains ps p) (sym c.in_ok-discard-in-Leave.ensures.named) has)

pub returns-in_ok-note-in-Leave-clause-said : goal.returns-in_ok-note-in-Leave-clause-said
returns-in_ok-note-in-Leave-clause-said g c = λ _ _. named_now _ _ c.args.place c.in_ok-note-in-Leave.ensures.named

pub returns-in_err-discard-in-Leave-clause-put : goal.returns-in_err-discard-in-Leave-clause-put
returns-in_err-discard-in-Leave-clause-put g c = IfOk-from_err _ _ c.from_residual.ensures.0

pub returns-in_err-discard-in-Leave-clause-grows : goal.returns-in_err-discard-in-Leave-clause-grows
returns-in_err-discard-in-Leave-clause-grows g c = IfOk-from_err _ _ c.from_residual.ensures.0

pub returns-in_err-discard-in-Leave-clause-said : goal.returns-in_err-discard-in-Leave-clause-said
returns-in_err-discard-in-Leave-clause-said g c = IfOk-from_err _ _ c.from_residual.ensures.0

pub returns-in_err-discard-in-Leave-clause-named : goal.returns-in_err-discard-in-Leave-clause-named
returns-in_err-discard-in-Leave-clause-named g c = IfOk-from_err _ _ c.from_residual.ensures.0

pub returns-in_err-note-in-Leave-clause-put : goal.returns-in_err-note-in-Leave-clause-put
returns-in_err-note-in-Leave-clause-put g c = IfOk-from_err _ _ c.from_residual-in_err-note-in-Leave.ensures.0

pub returns-in_err-note-in-Leave-clause-grows : goal.returns-in_err-note-in-Leave-clause-grows
returns-in_err-note-in-Leave-clause-grows g c = IfOk-from_err _ _ c.from_residual-in_err-note-in-Leave.ensures.0

pub returns-in_err-note-in-Leave-clause-said : goal.returns-in_err-note-in-Leave-clause-said
returns-in_err-note-in-Leave-clause-said g c = IfOk-from_err _ _ c.from_residual-in_err-note-in-Leave.ensures.0

pub returns-in_err-note-in-Leave-clause-named : goal.returns-in_err-note-in-Leave-clause-named
returns-in_err-note-in-Leave-clause-named g c = IfOk-from_err _ _ c.from_residual-in_err-note-in-Leave.ensures.0
