use Rattle.std.proofs.Common.{length}
use Rattle.std.proofs.lemmas.Bool.{both_ways}
use Rattle.lrc_code.specs.Codes.{tables_of}
use Rattle.lrc_code.specs.Sets.{is_in}
use Rattle.lrc_c.specs.Lent.{lent}
use Rattle.lrc_plan.proofs.Stripes.{used, row_used, contradiction, rebuilt, several, value_none, value_some}
use Rattle.lrc_c.proofs.rebuilding.rebuild.Goals as goal

pub are_zero-requires : goal.are_zero-requires
are_zero-requires c = used c.args.code (is_in c.args.set) (lent c.args.at.now) (length c.args.out.now) c.requires.whole
    c.learn_sixteen.ensures.bytes c.learn_sixteen.ensures.count c.plan_rows-plan.result.checks c.plan_rows-plan.ensures.of_survivors

pub returns-then-not-are_zero : goal.returns-then-not-are_zero
returns-then-not-are_zero c = contradiction c.args.code (is_in c.args.set) (lent c.args.at.now) (length c.args.out.now) c.requires.whole
    c.learn_sixteen.ensures.bytes c.learn_sixteen.ensures.count c.plan_rows-plan.result.checks c.plan_rows-plan.ensures.of_survivors
    (λ zero. both_ways _ c.if-not-are_zero.true (c.are_zero.ensures.1 zero))

pub returns-in_default : goal.returns-in_default
returns-in_default c = several c.args.code (is_in c.args.set) (lent c.args.at.now) (length c.args.out.now) c.requires.whole
    c.learn_sixteen.ensures.bytes c.learn_sixteen.ensures.count c.plan_rows-plan.result.checks c.plan_rows-plan.ensures.of_survivors
    (c.are_zero.ensures.0 c.if-not-are_zero.false) c.args.target c.requires.place c.requires.some
    (value_none (tables_of c.args.code) (is_in c.args.set) c.args.target c.plan_rows-plan.result.value c.in_default.is
    c.plan_rows-plan.ensures.of_target)

pub write_value-requires-clause-checks : goal.write_value-requires-clause-checks
write_value-requires-clause-checks c = used c.args.code (is_in c.args.set) (lent c.args.at.now) (length c.args.out.now) c.requires.whole
    c.learn_sixteen.ensures.bytes c.learn_sixteen.ensures.count c.plan_rows-plan.result.checks c.plan_rows-plan.ensures.of_survivors

pub write_value-requires-clause-row : goal.write_value-requires-clause-row
write_value-requires-clause-row c = row_used c.args.code (is_in c.args.set) (lent c.args.at.now) (length c.args.out.now) c.requires.whole
    c.learn_sixteen.ensures.bytes c.learn_sixteen.ensures.count c.in-Some.row
    (value_some (tables_of c.args.code) (is_in c.args.set) c.args.target c.plan_rows-plan.result.value c.in-Some.row c.in-Some.is
    c.plan_rows-plan.ensures.of_target).reads

pub returns-then-not-write_value : goal.returns-then-not-write_value
returns-then-not-write_value c = contradiction c.args.code (is_in c.args.set) (lent c.args.at.now) (length c.args.out.now) c.requires.whole
    c.learn_sixteen.ensures.bytes c.learn_sixteen.ensures.count c.plan_rows-plan.result.checks c.plan_rows-plan.ensures.of_survivors
    (c.write_value.ensures.no c.if-not-write_value.true)

pub returns : goal.returns
returns c = rebuilt c.args.code (is_in c.args.set) (lent c.args.at.now) (length c.args.out.now) c.requires.whole
    c.learn_sixteen.ensures.bytes c.learn_sixteen.ensures.count c.plan_rows-plan.result.checks c.plan_rows-plan.ensures.of_survivors
    (c.write_value.ensures.zero c.if-not-write_value.false) c.args.target c.requires.place c.in-Some.row c.write_value.new.out
    (value_some (tables_of c.args.code) (is_in c.args.set) c.args.target c.plan_rows-plan.result.value c.in-Some.row c.in-Some.is
    c.plan_rows-plan.ensures.of_target)
    (c.write_value.ensures.value c.if-not-write_value.false)
