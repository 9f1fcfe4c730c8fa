use Rattle.std.proofs.Common.{◌∙◌, ap, sym}
use Rattle.store_repair.specs.Scrubbed.{said_damaged}
use Rattle.store_repair.specs.Findings.{is_unsettled, is_without_length, named}
use Rattle.store_repair.proofs.NamedLemmas.{named_push, unsettled_push, without_length_push}
use Rattle.store_repair.proofs.ScrubLemmas.{push_some, said_push}
use Rattle.store_repair.proofs.outcomes.note.Goals as goal

pub returns-clause-said : goal.returns-clause-said
returns-clause-said c =
    ap said_damaged c.in_ok-push.ensures.items
    ∙ said_push c.args.findings.now.items (record { place = c.args.place; reason = c.args.reason })

pub returns-clause-some : goal.returns-clause-some
returns-clause-some c = λ none. push_some c.args.findings.now.items _ (sym c.in_ok-push.ensures.items ∙ none)

pub returns-clause-named : goal.returns-clause-named
returns-clause-named c =
    ap named c.in_ok-push.ensures.items ∙ named_push c.args.findings.now.items (record { place = c.args.place; reason = c.args.reason })

pub returns-clause-unsettled : goal.returns-clause-unsettled
returns-clause-unsettled c =
    ap is_unsettled c.in_ok-push.ensures.items
    ∙ unsettled_push c.args.findings.now.items (record { place = c.args.place; reason = c.args.reason })

pub returns-clause-length : goal.returns-clause-length
returns-clause-length c =
    ap is_without_length c.in_ok-push.ensures.items
    ∙ without_length_push c.args.findings.now.items (record { place = c.args.place; reason = c.args.reason })
