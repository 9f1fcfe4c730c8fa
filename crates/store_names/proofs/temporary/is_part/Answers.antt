use Rattle.std.proofs.Common.{sym, ◌∙◌}
use Rattle.store_names.proofs.RunTexts.{part_not_between, part_not_index, part_yes}
use Rattle.store_names.proofs.temporary.is_part.Goals as goal

pub returns-then-is_number : goal.returns-then-is_number
returns-then-is_number c = part_yes c.args.between.now c.args.text.now c.in-Some.index.now c.in-Some.rest.now c.in-Some.ensures
    c.in-Some-after.of.now _ c.in-Some-after.ensures (sym c.is_number.ensures ∙ c.if-is_number.true) c.is_number-then-is_number.ensures

pub returns-else-is_number : goal.returns-else-is_number
returns-else-is_number c = part_not_index c.args.between.now c.args.text.now c.in-Some.index.now c.in-Some.rest.now c.in-Some.ensures _
    c.is_number.ensures c.if-is_number.false

pub returns-in-None : goal.returns-in-None
returns-in-None c = part_not_between c.args.between.now c.args.text.now c.in-Some.index.now c.in-Some.rest.now c.in-Some.ensures
    c.in-None.ensures
