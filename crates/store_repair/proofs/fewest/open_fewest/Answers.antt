use Rattle.std.proofs.Common.{subst, sym}
use Rattle.lrc_code.specs.Sets.{is_in}
use Rattle.store_repair.specs.Opened.{AreFound, AreOpened}
use Rattle.store_repair.proofs.AccountedLemmas.{found_among}
use Rattle.std.proofs.lemmas.Result.{IfOk-from_err}
use Rattle.store_repair.proofs.fewest.open_fewest.Goals as goal
use Rattle.store_repair.proofs.fewest.open_fewest.Goals.{then-few+in_ok-opened, else-few+in_ok-opened-2}

pub returns-clause-opened : goal.returns-clause-opened
returns-clause-opened g c =
    let files = g.S.Store.files c.args.store.now in
    let are = AreOpened g.S.Survivor.Fragment.shown c.args.repair.now.code c.args.stripe.now.name.now c.args.length files in
    elim c.if-few.branch as (λ _. are c.if-few.opened.set c.if-few.opened.fragments.items) [
      | then-few+in_ok-opened w ↦ subst (λ o. are o.set o.fragments.items) (sym w.opened-is) w.in_ok-opened.ensures.opened
      | else-few+in_ok-opened-2 w ↦ subst (λ o. are o.set o.fragments.items) (sym w.opened-is) w.in_ok-opened-2.ensures.opened
    ]

pub returns-clause-found : goal.returns-clause-found
returns-clause-found g c =
    let code = c.args.repair.now.code in
    let are = AreFound code c.only.result.found c.args.length in
    found_among code c.only.result.found c.args.stripe.now.files.found c.args.length (is_in c.if-few.opened.set) c.only.ensures
    (elim c.if-few.branch as (λ _. are (is_in c.if-few.opened.set)) [
      | then-few+in_ok-opened w ↦ subst (λ o. are (is_in o.set)) (sym w.opened-is) w.in_ok-opened.ensures.found
      | else-few+in_ok-opened-2 w ↦ subst (λ o. are (is_in o.set)) (sym w.opened-is) w.in_ok-opened-2.ensures.found
    ])

pub returns-in_err-listed-clause-sixteen : goal.returns-in_err-listed-clause-sixteen
returns-in_err-listed-clause-sixteen g c = IfOk-from_err _ _ c.from_residual.ensures.0

pub returns-in_err-listed-clause-length : goal.returns-in_err-listed-clause-length
returns-in_err-listed-clause-length g c = IfOk-from_err _ _ c.from_residual.ensures.0

pub returns-in_err-listed-clause-opened : goal.returns-in_err-listed-clause-opened
returns-in_err-listed-clause-opened g c = IfOk-from_err _ _ c.from_residual.ensures.0

pub returns-in_err-listed-clause-found : goal.returns-in_err-listed-clause-found
returns-in_err-listed-clause-found g c = IfOk-from_err _ _ c.from_residual.ensures.0

pub returns-in_err-listed-clause-listed : goal.returns-in_err-listed-clause-listed
returns-in_err-listed-clause-listed g c = IfOk-from_err _ _ c.from_residual.ensures.0

pub returns-in_err-few-clause-sixteen : goal.returns-in_err-few-clause-sixteen
returns-in_err-few-clause-sixteen g c = IfOk-from_err _ _ c.from_residual-in_err-few.ensures.0

pub returns-in_err-few-clause-length : goal.returns-in_err-few-clause-length
returns-in_err-few-clause-length g c = IfOk-from_err _ _ c.from_residual-in_err-few.ensures.0

pub returns-in_err-few-clause-opened : goal.returns-in_err-few-clause-opened
returns-in_err-few-clause-opened g c = IfOk-from_err _ _ c.from_residual-in_err-few.ensures.0

pub returns-in_err-few-clause-found : goal.returns-in_err-few-clause-found
returns-in_err-few-clause-found g c = IfOk-from_err _ _ c.from_residual-in_err-few.ensures.0

pub returns-in_err-few-clause-listed : goal.returns-in_err-few-clause-listed
returns-in_err-few-clause-listed g c = IfOk-from_err _ _ c.from_residual-in_err-few.ensures.0
