use Rattle.std.proofs.Common.{◌≡◌, IfSome, subst, true}
use Rattle.lrc_code.specs.declared.places.Place.{Place}
use Rattle.lrc_code.specs.Sets.{is_in}
use Rattle.store_repair.proofs.ShownLemmas.{shown_of_held}
use Rattle.std.proofs.lemmas.Result.{IfOk-from_err}
use Rattle.store_repair.proofs.attempting.make_from_fewest.Goals as goal

pub returns-in_ok-append-in-Made-clause-shown : goal.returns-in_ok-append-in-Made-clause-shown
returns-in_ok-append-in-Made-clause-shown g c = λ reads.
    let made = c.in-Made.made in
    let code = c.args.repair.now.code in
    let listed = g.S.Store.listed c.args.store.now c.args.stripe.now.name.now in
    let known = subst (λ o. IfSome o (λ few. (p : Place) → is_in few.listed p ≡ true → listed p)) c.in-Some.is
    c.in_ok-few.ensures.listed in
    shown_of_held listed code (is_in made.set) (is_in c.in-Some.field-0.listed) made.places.items known
    (c.in_ok-is_as_asked-in-Made.ensures reads c.if-not-branch.false)

pub returns-in_err-few-clause-made : goal.returns-in_err-few-clause-made
returns-in_err-few-clause-made g c = IfOk-from_err _ _ c.from_residual.ensures.0

pub returns-in_err-few-clause-checked : goal.returns-in_err-few-clause-checked
returns-in_err-few-clause-checked g c = IfOk-from_err _ _ c.from_residual.ensures.0

pub returns-in_err-few-clause-shown : goal.returns-in_err-few-clause-shown
returns-in_err-few-clause-shown g c = λ _. IfOk-from_err _ _ c.from_residual.ensures.0

pub returns-in_err-keep_changes-clause-made : goal.returns-in_err-keep_changes-clause-made
returns-in_err-keep_changes-clause-made g c = IfOk-from_err _ _ c.from_residual-in_err-keep_changes.ensures.0

pub returns-in_err-keep_changes-clause-checked : goal.returns-in_err-keep_changes-clause-checked
returns-in_err-keep_changes-clause-checked g c = IfOk-from_err _ _ c.from_residual-in_err-keep_changes.ensures.0

pub returns-in_err-keep_changes-clause-shown : goal.returns-in_err-keep_changes-clause-shown
returns-in_err-keep_changes-clause-shown g c = λ _. IfOk-from_err _ _ c.from_residual-in_err-keep_changes.ensures.0

pub returns-in_err-made-clause-made : goal.returns-in_err-made-clause-made
returns-in_err-made-clause-made g c = IfOk-from_err _ _ c.from_residual-in_err-made.ensures.0

pub returns-in_err-made-clause-checked : goal.returns-in_err-made-clause-checked
returns-in_err-made-clause-checked g c = IfOk-from_err _ _ c.from_residual-in_err-made.ensures.0

pub returns-in_err-made-clause-shown : goal.returns-in_err-made-clause-shown
returns-in_err-made-clause-shown g c = λ _. IfOk-from_err _ _ c.from_residual-in_err-made.ensures.0

pub returns-in_err-is_as_asked-in-Made-clause-made : goal.returns-in_err-is_as_asked-in-Made-clause-made
returns-in_err-is_as_asked-in-Made-clause-made g c = IfOk-from_err _ _ c.from_residual-in_err-is_as_asked-in-Made.ensures.0

pub returns-in_err-is_as_asked-in-Made-clause-checked : goal.returns-in_err-is_as_asked-in-Made-clause-checked
returns-in_err-is_as_asked-in-Made-clause-checked g c = IfOk-from_err _ _ c.from_residual-in_err-is_as_asked-in-Made.ensures.0

pub returns-in_err-is_as_asked-in-Made-clause-shown : goal.returns-in_err-is_as_asked-in-Made-clause-shown
returns-in_err-is_as_asked-in-Made-clause-shown g c = λ _. IfOk-from_err _ _ c.from_residual-in_err-is_as_asked-in-Made.ensures.0

pub returns-in_err-discard_all-in-Made-clause-made : goal.returns-in_err-discard_all-in-Made-clause-made
returns-in_err-discard_all-in-Made-clause-made g c = IfOk-from_err _ _ c.from_residual-in_err-discard_all-in-Made.ensures.0

pub returns-in_err-discard_all-in-Made-clause-checked : goal.returns-in_err-discard_all-in-Made-clause-checked
returns-in_err-discard_all-in-Made-clause-checked g c = IfOk-from_err _ _ c.from_residual-in_err-discard_all-in-Made.ensures.0

pub returns-in_err-discard_all-in-Made-clause-shown : goal.returns-in_err-discard_all-in-Made-clause-shown
returns-in_err-discard_all-in-Made-clause-shown g c = λ _. IfOk-from_err _ _ c.from_residual-in_err-discard_all-in-Made.ensures.0

pub returns-in_err-append-in-Made-clause-made : goal.returns-in_err-append-in-Made-clause-made
returns-in_err-append-in-Made-clause-made g c = IfOk-from_err _ _ c.from_residual-in_err-append-in-Made.ensures.0

pub returns-in_err-append-in-Made-clause-checked : goal.returns-in_err-append-in-Made-clause-checked
returns-in_err-append-in-Made-clause-checked g c = IfOk-from_err _ _ c.from_residual-in_err-append-in-Made.ensures.0

pub returns-in_err-append-in-Made-clause-shown : goal.returns-in_err-append-in-Made-clause-shown
returns-in_err-append-in-Made-clause-shown g c = λ _. IfOk-from_err _ _ c.from_residual-in_err-append-in-Made.ensures.0
