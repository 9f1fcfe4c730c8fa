use Rattle.std.proofs.Common.{◌≡◌, ◌++◌, ◌∙◌, ℕ, List, ap, arith, rules, decimal, subst}
use Rattle.std.specs.Prelude.{OnOk}
use Rattle.lrc_code.specs.Codes.{code_text}
use Rattle.lrc_code.specs.Places.{name_of}
use Rattle.farm_reports.specs.Report.{digest_text, row_of}
use Rattle.farm_reports.specs.Writing.{HasWritten}
use Rattle.farm_reports.proofs.Plain.{row_fields}
use Rattle.farm_reports.proofs.report.write_row.Goals as goal

pub returns : goal.returns
returns c =
    let row = row_of c.args.row.now in
    let number : c.as_bytes.result.now ≡ decimal c.args.number = c.as_bytes.ensures.value ∙ c.in_ok-number.ensures in
    let feed : c.as_bytes-2.result.now ≡ decimal c.args.row.now.feed = c.as_bytes-2.ensures.value ∙ c.in_ok-feed.ensures in
    let stripe = c.as_bytes-3.ensures.value ∙ c.stripe.ensures.value in
    let target = c.as_bytes-4.ensures.value ∙ c.name.ensures ∙ ap name_of c.target.ensures in
    let length : c.as_bytes-5.result.now ≡ decimal c.args.row.now.listed.now.len =
    c.as_bytes-5.ensures.value ∙ c.in_ok-length.ensures ∙ ap decimal (search rules) in
    let digest = c.as_bytes-6.ensures.value ∙ c.in_ok-digest.ensures ∙ ap digest_text c.requires in
    let unread = c.as_slice.ensures.value ∙ c.in_ok-unread.ensures in
    let code = c.as_bytes-7.ensures.value ∙ c.text.ensures ∙ ap code_text c.code.ensures in
    subst (λ line. OnOk c.write_texts.result ((text : List ℕ) → HasWritten text c.args.writer.now
    → HasWritten (text ++ line) c.write_texts.new.writer))
    (row_fields c.args.shape c.args.number row _ _ _ _ _ _ _ _ _ (omega arith)
    (omega (arith, c.type_inv.row)) c.length.ensures.accepted number feed stripe target length c.outcome_word.ensures digest unread code)
    c.write_texts.ensures
