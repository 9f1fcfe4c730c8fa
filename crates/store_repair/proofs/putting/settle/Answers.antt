use Rattle.std.proofs.Common.{◌≡◌, ◌∙◌, refl, true}
use Rattle.std.proofs.lemmas.Bool.{or_right}
use Rattle.std.proofs.lemmas.Result.{on_ok_weaker}
use Rattle.store_repair.specs.Findings.{is_unsettled}
use Rattle.store_repair.proofs.putting.settle.Goals as goal

-- a fault is noted
pub returns-in_ok-note-in-Err-clause-done : goal.returns-in_ok-note-in-Err-clause-done
returns-in_ok-note-in-Err-clause-done g c =
    let said : is_unsettled c.note.new.findings.items ≡ true =
    c.in_ok-note-in-Err.ensures.unsettled ∙ or_right (is_unsettled c.args.findings.now.items) _ refl in
    on_ok_weaker c.settle_rest.result (λ stays settled. absurd (let still = stays said in cc)) c.settle_rest.ensures.unsettled
