use Rattle.std.proofs.Common.{◌∙◌, ap, length, subst, sym}
use Rattle.std.proofs.lemmas.List.{length-set}
use Rattle.lrc_code.specs.Places.{index_of}
use Rattle.store_repair.specs.Opened.{AreOpened}
use Rattle.store_repair.specs.Findings.{named}
use Rattle.store_repair.proofs.AccountedLemmas.{found_but, opened_but}
use Rattle.store_repair.proofs.NotedLemmas.{named_still}
use Rattle.store_repair.proofs.RepairLemmas.{opened_less}
use Rattle.std.proofs.lemmas.Result.{IfOk-from_err}
use Rattle.store_repair.proofs.opening.open_survivors.Goals as goal

pub refused-preserved : goal.refused-preserved
refused-preserved g c =
    let so = c.refused.invariant in
    let old = c.refused.opened in
    let new = c.leave_out.new.opened in
    let shown = g.S.Survivor.Fragment.shown in
    let code = c.args.code in
    let stripe = c.args.stripe.now.name.now in
    let files = g.S.Store.files c.args.store.now in
    record {
      sixteen = ap length c.leave_out.ensures.fragments ∙ length-set old.fragments.items (index_of c.in-Some.field-0.place) _ ∙ so.sixteen;
      long = c.leave_out.ensures.length ∙ so.long;
      said = c.in_ok-note_unread.ensures.said ∙ so.said;
      stay = λ p is. named_still (named c.refused.findings.items) (named c.note_unread.new.findings.items) _ p
          c.in_ok-note_unread.ensures.named (so.stay p is);
      named = opened_but code c.args.stripe.now.files.found c.args.length old.set new.set c.refused.findings.items
          c.note_unread.new.findings.items c.in-Some.field-0.place c.leave_out.ensures.set c.in_ok-note_unread.ensures.named so.named;
      found = found_but code c.args.stripe.now.files.found c.args.length old.set new.set c.in-Some.field-0.place c.leave_out.ensures.set
          so.found;
      opened = subst (AreOpened shown code stripe c.args.length files new.set) (sym c.leave_out.ensures.fragments)
          (opened_less shown code stripe c.args.length files old.set new.set old.fragments.items c.in-Some.field-0.place
          so.sixteen c.leave_out.ensures.set so.opened);
    }

pub returns-in_err-opened-clause-sixteen : goal.returns-in_err-opened-clause-sixteen
returns-in_err-opened-clause-sixteen g c = IfOk-from_err _ _ c.from_residual.ensures.0

pub returns-in_err-opened-clause-length : goal.returns-in_err-opened-clause-length
returns-in_err-opened-clause-length g c = IfOk-from_err _ _ c.from_residual.ensures.0

pub returns-in_err-opened-clause-opened : goal.returns-in_err-opened-clause-opened
returns-in_err-opened-clause-opened g c = IfOk-from_err _ _ c.from_residual.ensures.0

pub returns-in_err-opened-clause-said : goal.returns-in_err-opened-clause-said
returns-in_err-opened-clause-said g c = IfOk-from_err _ _ c.from_residual.ensures.0

pub returns-in_err-opened-clause-stay : goal.returns-in_err-opened-clause-stay
returns-in_err-opened-clause-stay g c = IfOk-from_err _ _ c.from_residual.ensures.0

pub returns-in_err-opened-clause-named : goal.returns-in_err-opened-clause-named
returns-in_err-opened-clause-named g c = IfOk-from_err _ _ c.from_residual.ensures.0

pub returns-in_err-opened-clause-found : goal.returns-in_err-opened-clause-found
returns-in_err-opened-clause-found g c = IfOk-from_err _ _ c.from_residual.ensures.0

pub returns-in_err-refused-clause-sixteen : goal.returns-in_err-refused-clause-sixteen
returns-in_err-refused-clause-sixteen g c = IfOk-from_err _ _ c.from_residual-in_err-refused.ensures.0

pub returns-in_err-refused-clause-length : goal.returns-in_err-refused-clause-length
returns-in_err-refused-clause-length g c = IfOk-from_err _ _ c.from_residual-in_err-refused.ensures.0

pub returns-in_err-refused-clause-opened : goal.returns-in_err-refused-clause-opened
returns-in_err-refused-clause-opened g c = IfOk-from_err _ _ c.from_residual-in_err-refused.ensures.0

pub returns-in_err-refused-clause-said : goal.returns-in_err-refused-clause-said
returns-in_err-refused-clause-said g c = IfOk-from_err _ _ c.from_residual-in_err-refused.ensures.0

pub returns-in_err-refused-clause-stay : goal.returns-in_err-refused-clause-stay
returns-in_err-refused-clause-stay g c = IfOk-from_err _ _ c.from_residual-in_err-refused.ensures.0

pub returns-in_err-refused-clause-named : goal.returns-in_err-refused-clause-named
returns-in_err-refused-clause-named g c = IfOk-from_err _ _ c.from_residual-in_err-refused.ensures.0

pub returns-in_err-refused-clause-found : goal.returns-in_err-refused-clause-found
returns-in_err-refused-clause-found g c = IfOk-from_err _ _ c.from_residual-in_err-refused.ensures.0

pub returns-in_err-note_unread-clause-sixteen : goal.returns-in_err-note_unread-clause-sixteen
returns-in_err-note_unread-clause-sixteen g c = IfOk-from_err _ _ c.from_residual-in_err-note_unread.ensures.0

pub returns-in_err-note_unread-clause-length : goal.returns-in_err-note_unread-clause-length
returns-in_err-note_unread-clause-length g c = IfOk-from_err _ _ c.from_residual-in_err-note_unread.ensures.0

pub returns-in_err-note_unread-clause-opened : goal.returns-in_err-note_unread-clause-opened
returns-in_err-note_unread-clause-opened g c = IfOk-from_err _ _ c.from_residual-in_err-note_unread.ensures.0

pub returns-in_err-note_unread-clause-said : goal.returns-in_err-note_unread-clause-said
returns-in_err-note_unread-clause-said g c = IfOk-from_err _ _ c.from_residual-in_err-note_unread.ensures.0

pub returns-in_err-note_unread-clause-stay : goal.returns-in_err-note_unread-clause-stay
returns-in_err-note_unread-clause-stay g c = IfOk-from_err _ _ c.from_residual-in_err-note_unread.ensures.0

pub returns-in_err-note_unread-clause-named : goal.returns-in_err-note_unread-clause-named
returns-in_err-note_unread-clause-named g c = IfOk-from_err _ _ c.from_residual-in_err-note_unread.ensures.0

pub returns-in_err-note_unread-clause-found : goal.returns-in_err-note_unread-clause-found
returns-in_err-note_unread-clause-found g c = IfOk-from_err _ _ c.from_residual-in_err-note_unread.ensures.0
