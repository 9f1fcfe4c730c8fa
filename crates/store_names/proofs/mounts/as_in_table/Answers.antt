use Rattle.std.proofs.Common.{◌∙◌, sym, ap}
use Rattle.std.specs.List.{flat_map}
use Rattle.std.proofs.lemmas.Iterator.{YieldsList-from_chars}
use Rattle.std.proofs.lemmas.Iterator.Consumers.{YieldsList-end}
use Rattle.std.proofs.lemmas.Result.{IfOk-from_err}
use Rattle.store_names.specs.Mounts.{letter_in_table}
use Rattle.store_names.proofs.Letters.{as_they_are}
use Rattle.store_names.proofs.mounts.as_in_table.Goals as goal

pub returns : goal.returns
returns c =
    let letters = YieldsList-from_chars c.args.path.now c.utf8.path cc in
    let all = YieldsList-end letters c.loop-letter.yielded _ c.loop-letter.yielded_by _ _ c.in-None.is c.next.ensures.steps in
    c.loop-letter.invariant ∙ ap (flat_map letter_in_table) (sym (as_they_are c.loop-letter.yielded) ∙ all.0)

pub returns-in_err-push_as_in_table : goal.returns-in_err-push_as_in_table
returns-in_err-push_as_in_table c = IfOk-from_err _ _ c.from_residual.ensures.0
