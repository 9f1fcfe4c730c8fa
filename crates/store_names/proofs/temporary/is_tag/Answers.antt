use Rattle.store_names.proofs.RunTexts.{tag_not_before, tag_yes}
use Rattle.store_names.proofs.temporary.is_tag.Goals as goal

pub returns-then-may_be_before : goal.returns-then-may_be_before
returns-then-may_be_before c = tag_yes c.args.text.now c.in-Some.before.now c.in-Some.run'.now c.in-Some.ensures _
    (c.may_be_before.ensures.0 c.if-may_be_before.true) c.is_run.ensures

pub returns-else-may_be_before : goal.returns-else-may_be_before
returns-else-may_be_before c = tag_not_before c.args.text.now c.in-Some.before.now c.in-Some.run'.now c.in-Some.ensures _
    c.may_be_before.ensures c.if-may_be_before.false
