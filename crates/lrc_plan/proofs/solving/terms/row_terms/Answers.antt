use Rattle.lrc_plan.proofs.TermRows.{row_terms, used}
use Rattle.lrc_plan.proofs.solving.terms.row_terms.Goals as goal

pub returns : goal.returns
returns c = row_terms c.args.request.now c.args.row.now c.args.sources.now c.requires.sources c.terms_in.result.now
    (c.terms_in.ensures.terms c.args.request.now.len (used c.args.request.now c.args.row.now c.args.sources.now c.requires.sources
    c.learn_invariant.ensures.accepted c.learn_invariant.ensures.bytes))
