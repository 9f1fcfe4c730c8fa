use Rattle.std.proofs.Common.{sym, ◌∙◌}
use Rattle.store_names.proofs.RunNames.{own_not_digits, own_yes}
use Rattle.store_names.proofs.temporary.is_own.Goals as goal

pub returns-then-is_random : goal.returns-then-is_random
returns-then-is_random c = own_yes c.args.text.now c.in-Some.run'.now c.in-Some.digits.now c.in-Some.ensures _
    (sym c.is_random.ensures ∙ c.if-is_random.true) c.is_run.ensures

pub returns-else-is_random : goal.returns-else-is_random
returns-else-is_random c = own_not_digits c.args.text.now c.in-Some.run'.now c.in-Some.digits.now c.in-Some.ensures _ c.is_random.ensures
    c.if-is_random.false
