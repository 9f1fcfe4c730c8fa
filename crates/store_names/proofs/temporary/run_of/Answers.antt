use Rattle.std.proofs.Common.{sym, subst, ◌∙◌}
use Rattle.std.proofs.lemmas.Bool.{both_ways}
use Rattle.store_names.specs.RunFiles.{IsRun}
use Rattle.store_names.proofs.RunTexts.{run_in_has_at}
use Rattle.store_names.proofs.RunNames.{said_parts, said_run, says_it}
use Rattle.store_names.proofs.temporary.run_of.Goals as goal

pub returns-in_default : goal.returns-in_default
returns-in_default c = λ run says. c.in_default.ensures _ says.is

pub returns-in_default-run_in : goal.returns-in_default-run_in
returns-in_default-run_in c = λ run says. run_in_has_at _ _ _ (said_parts c.args.name.now c.in-Some.rest.now
    c.in-Some-around_last.before.now c.in-Some-around_last.digits.now c.in-Some.ensures c.in-Some-around_last.ensures run says).0
    c.in_default-run_in.ensures

pub returns-then-not-is_random : goal.returns-then-not-is_random
returns-then-not-is_random c = λ run says. both_ways _ (sym c.is_random.ensures ∙ c.if-not-is_random.true) (said_parts c.args.name.now
    c.in-Some.rest.now c.in-Some-around_last.before.now c.in-Some-around_last.digits.now c.in-Some.ensures c.in-Some-around_last.ensures
    run says).1

pub returns-then-is_run : goal.returns-then-is_run
returns-then-is_run c = says_it c.args.name.now c.in-Some.rest.now c.in-Some-around_last.before.now c.in-Some-around_last.digits.now
    c.in-Some.ensures c.in-Some-around_last.ensures c.in-Some-run_in.field-0-0.now c.in-Some-run_in.run'.now c.in-Some-run_in.ensures
    (sym c.is_random.ensures ∙ c.if-not-is_random.false) (c.is_run.ensures.0 c.if-is_run.true)

pub returns-else-is_run : goal.returns-else-is_run
returns-else-is_run c = λ run says. both_ways _ c.if-is_run.false (c.is_run.ensures.1 (subst IsRun (sym (said_run c.args.name.now
    c.in-Some.rest.now c.in-Some-around_last.before.now c.in-Some-around_last.digits.now c.in-Some.ensures c.in-Some-around_last.ensures
    c.in-Some-run_in.field-0-0.now c.in-Some-run_in.run'.now run c.in-Some-run_in.ensures says)) says.is_run))
