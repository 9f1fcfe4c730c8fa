use Rattle.std.proofs.Common.{◌<◌, length, arith, sym, ◌∙◌, false}
use Rattle.std.proofs.lemmas.Bool.{eqb-true, eqb-false}
use Rattle.store_names.proofs.RunNames.{left_with_tag, left_without_tag, not_of_tag, of_tag_not, of_tag_yes}
use Rattle.store_names.proofs.temporary.is_left_by.Goals as goal

pub returns-then-is_empty : goal.returns-then-is_empty
returns-then-is_empty c = left_without_tag c.args.tag.now c.args.name.now _ (eqb-true _ _ (sym c.is_empty.ensures ∙ c.if-is_empty.true))
    c.is_of_runs.ensures

pub returns-in_default : goal.returns-in_default
returns-in_default c =
    let none = eqb-false _ _ (sym c.is_empty.ensures ∙ c.if-is_empty.false) in
    let some : 0 < length c.args.tag.now = omega (arith, none) in
    left_with_tag c.args.tag.now c.args.name.now false some (not_of_tag c.args.name.now c.in_default.ensures c.args.tag.now)

pub returns-in-Some-after : goal.returns-in-Some-after
returns-in-Some-after c =
    let none = eqb-false _ _ (sym c.is_empty.ensures ∙ c.if-is_empty.false) in
    let some : 0 < length c.args.tag.now = omega (arith, none) in
    left_with_tag c.args.tag.now c.args.name.now _ some (of_tag_yes c.args.name.now c.in-Some.rest.now c.in-Some.ensures c.args.tag.now
    c.in-Some-after.own.now _ c.in-Some-after.ensures c.is_own.ensures)

pub returns-in-None : goal.returns-in-None
returns-in-None c =
    let none = eqb-false _ _ (sym c.is_empty.ensures ∙ c.if-is_empty.false) in
    let some : 0 < length c.args.tag.now = omega (arith, none) in
    left_with_tag c.args.tag.now c.args.name.now false some (of_tag_not c.args.name.now c.in-Some.rest.now c.in-Some.ensures c.args.tag.now
    c.in-None.ensures)
