use Rattle.std.specs.Prelude.{◌⊎◌, Contains}
use Rattle.std.proofs.Common.{◌≡◌, ◌≢◌, ◌∙◌, [], ap, arith, length, subst, sym, true, false, not}
use Rattle.lrc_code.specs.declared.places.Place.{Place}
use Rattle.store_repair.specs.Findings.{named}
use Rattle.std.proofs.lemmas.Bool.{and_parts}
use Rattle.std.proofs.lemmas.List.{length-set}
use Rattle.lrc_code.specs.Places.{index_of}
use Rattle.lrc_code.specs.Sets.{is_in}
use Rattle.store_repair.specs.Losses.{AreChecked}
use Rattle.store_repair.specs.Opened.{AreOpened}
use Rattle.store_repair.specs.Repaired.{IfMade, IfNotMade, IsAccountedFor}
use Rattle.store_repair.proofs.RepairLemmas.{opened_less}
use Rattle.std.proofs.lemmas.Result.{IfOk-from_err}
use Rattle.store_repair.proofs.making.make.Goals as goal

pub attempts-preserved : goal.attempts-preserved
attempts-preserved g c =
    let so = c.attempts.invariant in
    let old = c.attempts.left in
    let new = c.leave_out.new.opened in
    let shown = g.S.Survivor.Fragment.shown in
    let code = c.args.repair.now.code in
    let stripe = c.args.stripe.now.name.now in
    let files = g.S.Store.files in
    record {
      same = c.make_from.ensures.same ∙ so.same;
      kept = λ given from before. c.make_from.ensures.kept given from (so.kept given from before);
      said = λ some. subst (IfNotMade (c.make_from.new.findings.items ≢ [])) c.in-LeaveOut.is c.in_ok-made.ensures.said;
      sixteen = ap length c.leave_out.ensures.fragments ∙ length-set old.fragments.items (index_of c.in-LeaveOut.place) _ ∙ so.sixteen;
      long = c.leave_out.ensures.length ∙ so.long;
      opened = rw (c.leave_out.ensures.length, c.make_from.ensures.same)
          (subst (AreOpened shown code stripe old.length (files c.attempts.store) new.set) (sym c.leave_out.ensures.fragments)
          (opened_less shown code stripe old.length (files c.attempts.store) old.set new.set old.fragments.items c.in-LeaveOut.place
          so.sixteen c.leave_out.ensures.set so.opened));
    }

pub returns-in-Made-clause-checked : goal.returns-in-Made-clause-checked
returns-in-Made-clause-checked g c = λ on.
    let made = c.in-Made.made in
    let code = c.args.repair.now.code in
    let len = c.attempts.left.length in
    let own = (and_parts made.is_checked (not c.attempts.has_guessed) (sym c.held.ensures.checked ∙ on)).0 in
    let of = subst (IfMade (λ m. m.is_checked ≡ true → AreChecked code (is_in m.set) len)) c.in-Made.is c.in_ok-made.ensures.checked in
    subst (λ set. AreChecked code (is_in set) c.args.opened.length) (sym c.held.ensures.set)
    (subst (AreChecked code (is_in made.set)) c.attempts.invariant.long (of own))

pub returns-in-Made-clause-all : goal.returns-in-Made-clause-all
returns-in-Made-clause-all g c = λ reads p has out.
    let code = c.args.repair.now.code in
    let new = c.make_from.new.findings.items in
    let of = subst (IfMade (λ m. (q : Place) → IsAccountedFor code (is_in m.set) m.places.items new q)) c.in-Made.is
    (c.in_ok-made.ensures.all reads) in
    subst (λ places. Contains places.items p ⊎ Contains (named new) p) (sym c.held.ensures.places)
    (of p has (subst (λ set. is_in set p ≡ false) c.held.ensures.set out))

pub returns-clause-said : goal.returns-clause-said
returns-clause-said g c = c.attempts.invariant.said (let end = c.attempts-test.false in omega (arith, end))

pub returns-in_err-made-clause-kept : goal.returns-in_err-made-clause-kept
returns-in_err-made-clause-kept g c = λ given from before.
    c.in_err-made.ensures.kept given from (c.attempts.invariant.kept given from before)

pub returns-in_err-made-clause-made : goal.returns-in_err-made-clause-made
returns-in_err-made-clause-made g c = IfOk-from_err c.from_residual.result _ c.from_residual.ensures.0

pub returns-in_err-made-clause-checked : goal.returns-in_err-made-clause-checked
returns-in_err-made-clause-checked g c = IfOk-from_err c.from_residual.result _ c.from_residual.ensures.0

pub returns-in_err-made-clause-all : goal.returns-in_err-made-clause-all
returns-in_err-made-clause-all g c = λ _. IfOk-from_err c.from_residual.result _ c.from_residual.ensures.0

pub returns-in_err-made-clause-said : goal.returns-in_err-made-clause-said
returns-in_err-made-clause-said g c = IfOk-from_err c.from_residual.result _ c.from_residual.ensures.0

pub returns-in-GivenUp-clause-kept : goal.returns-in-GivenUp-clause-kept
returns-in-GivenUp-clause-kept g c = λ given from before.
    c.in_ok-made.ensures.kept given from (c.attempts.invariant.kept given from before)

pub returns-in_err-made-clause-same : goal.returns-in_err-made-clause-same
returns-in_err-made-clause-same g c = c.make_from.ensures.same ∙ c.attempts.invariant.same

pub returns-in-Made-clause-same : goal.returns-in-Made-clause-same
returns-in-Made-clause-same g c = c.make_from.ensures.same ∙ c.attempts.invariant.same

pub returns-in-GivenUp-clause-same : goal.returns-in-GivenUp-clause-same
returns-in-GivenUp-clause-same g c = c.make_from.ensures.same ∙ c.attempts.invariant.same

pub returns-clause-same : goal.returns-clause-same
returns-clause-same g c = c.attempts.invariant.same

pub returns-in-Made-clause-kept : goal.returns-in-Made-clause-kept
returns-in-Made-clause-kept g c = λ given from before.
    c.in_ok-made.ensures.kept given from (c.attempts.invariant.kept given from before)

pub returns-clause-kept : goal.returns-clause-kept
returns-clause-kept g c = c.attempts.invariant.kept

pub returns-in-Made-clause-said : goal.returns-in-Made-clause-said
returns-in-Made-clause-said g c = tt

pub returns-in-GivenUp-clause-made : goal.returns-in-GivenUp-clause-made
returns-in-GivenUp-clause-made g c = tt

pub returns-in-GivenUp-clause-checked : goal.returns-in-GivenUp-clause-checked
returns-in-GivenUp-clause-checked g c = tt

pub returns-in-GivenUp-clause-all : goal.returns-in-GivenUp-clause-all
returns-in-GivenUp-clause-all g c = λ _. tt

pub returns-clause-made : goal.returns-clause-made
returns-clause-made g c = tt

pub returns-clause-checked : goal.returns-clause-checked
returns-clause-checked g c = tt

pub returns-clause-all : goal.returns-clause-all
returns-clause-all g c = λ _. tt
