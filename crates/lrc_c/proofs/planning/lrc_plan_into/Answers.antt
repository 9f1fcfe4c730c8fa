use Rattle.std.proofs.Common.{Some, None, refl, inl, inr, subst}
use Rattle.lrc_code.specs.Codes.{tables_of}
use Rattle.lrc_code.specs.Sets.{is_in}
use Rattle.lrc_plan.specs.RowPlans.{IsRowPlan}
use Rattle.lrc_c.proofs.Exports.{same_lost, said_of}
use Rattle.lrc_c.proofs.planning.lrc_plan_into.Goals as goal

pub returns-in-Some-value-clause-answer : goal.returns-in-Some-value-clause-answer
returns-in-Some-value-clause-answer c = λ d p h.
    let same = same_lost c.in-Some.ensures h in
    inl (
      refl,
      said_of (λ x s q. IsRowPlan (tables_of x) s q (Some c.in-Some-value.value) c.plan_rows-rows.result.checks)
          c.args.survivors c.set_of.result c.in-Some.lost.code d c.in-Some.lost.place p c.set_of.ensures same.0 same.1
          (subst (λ v. IsRowPlan (tables_of c.in-Some.lost.code) (is_in c.set_of.result) c.in-Some.lost.place v
          c.plan_rows-rows.result.checks) c.in-Some-value.is c.plan_rows-rows.ensures),
    )

pub returns-in-Some-value-clause-refused : goal.returns-in-Some-value-clause-refused
returns-in-Some-value-clause-refused c = λ none. absurd (none c.in-Some.lost.code c.in-Some.lost.place c.in-Some.ensures)

pub returns-in-None-clause-answer : goal.returns-in-None-clause-answer
returns-in-None-clause-answer c = λ d p h.
    let same = same_lost c.in-Some.ensures h in
    inr (
      refl,
      said_of (λ x s q. IsRowPlan (tables_of x) s q None c.plan_rows-rows.result.checks)
          c.args.survivors c.set_of.result c.in-Some.lost.code d c.in-Some.lost.place p c.set_of.ensures same.0 same.1
          (subst (λ v. IsRowPlan (tables_of c.in-Some.lost.code) (is_in c.set_of.result) c.in-Some.lost.place v
          c.plan_rows-rows.result.checks) c.in-None.is c.plan_rows-rows.ensures),
    )

pub returns-in-None-clause-refused : goal.returns-in-None-clause-refused
returns-in-None-clause-refused c = λ none. absurd (none c.in-Some.lost.code c.in-Some.lost.place c.in-Some.ensures)
