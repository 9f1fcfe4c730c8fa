use Rattle.std.proofs.lemmas.Result.{IfOk-weaker}
use Rattle.store_repair.specs.Scrubbed.{damaged_by, said_damaged}
use Rattle.store_repair.proofs.ScrubLemmas.{same_said}
use Rattle.store_repair.proofs.device_faults.note_unread.Goals as goal

pub returns-clause-said : goal.returns-clause-said
returns-clause-said c = IfOk-weaker c.note.result _ _
    (λ _ is. same_said (said_damaged c.args.findings.now.items) (said_damaged c.note.new.findings.items)
    (damaged_by c.in_ok-read_fault.field-0 c.args.place) is (c.in_ok-read_fault.ensures c.args.place)) c.note.ensures.said
