use Rattle.std.proofs.Common.{sym, ◌∙◌}
use Rattle.store_names.proofs.RunNames.{not_unfinished, unfinished_bare, unfinished_not_digits, unfinished_yes}
use Rattle.store_names.proofs.temporary.is_of_unfinished.Goals as goal

pub returns-in_default : goal.returns-in_default
returns-in_default c = not_unfinished c.args.name.now c.in_default.ensures

pub returns-then-is_random : goal.returns-then-is_random
returns-then-is_random c = unfinished_yes c.args.name.now c.in-Some.rest.now c.in-Some.ensures c.in-Some-around_last.before.now
    c.in-Some-around_last.digits.now c.in-Some-around_last.ensures _ (sym c.is_random.ensures ∙ c.if-is_random.true) c.is_tag.ensures

pub returns-else-is_random : goal.returns-else-is_random
returns-else-is_random c = unfinished_not_digits c.args.name.now c.in-Some.rest.now c.in-Some.ensures c.in-Some-around_last.before.now
    c.in-Some-around_last.digits.now c.in-Some-around_last.ensures _ c.is_random.ensures c.if-is_random.false

pub returns-in-None : goal.returns-in-None
returns-in-None c = unfinished_bare c.args.name.now c.in-Some.rest.now c.in-Some.ensures _ c.in-None.ensures c.is_random-in-None.ensures
