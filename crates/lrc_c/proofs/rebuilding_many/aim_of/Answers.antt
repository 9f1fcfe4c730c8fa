use Rattle.std.proofs.Common.{subst, sym}
use Rattle.lrc_code.specs.Sets.{is_in}
use Rattle.lrc_c.specs.Lent.{lent}
use Rattle.lrc_c.specs.RebuiltMany.{IsAimed}
use Rattle.lrc_c.specs.declared.rebuilding_many.Aim.TheVariants as aim
use Rattle.lrc_c.proofs.Combinations.{where_used}
use Rattle.lrc_plan.proofs.Stripes.{row_used}
use Rattle.lrc_c.proofs.rebuilding_many.aim_of.Goals as goal

pub returns-clause-aim : goal.returns-clause-aim
returns-clause-aim c =
    let survivors = c.args.survivors.now in
    let at = lent survivors.at.now in
    let terms = c.terms_in.ensures.terms survivors.len (where_used c.in-Some.row at survivors.len
    (row_used survivors.code (is_in survivors.set)
    at survivors.len c.requires.whole c.learn_sixteen.ensures.bytes c.learn_sixteen.ensures.count c.in-Some.row
    c.in-Some.ensures.value.reads)) in
    subst (λ t. IsAimed survivors.code (is_in survivors.set) at survivors.len t (aim.Sums c.in-Some.row) c.terms_in.result.now)
    (sym c.in-Lost.is) (c.in-Some.ensures.value, terms)

pub returns-clause-used : goal.returns-clause-used
returns-clause-used c =
    let survivors = c.args.survivors.now in
    row_used survivors.code (is_in survivors.set) (lent survivors.at.now) survivors.len c.requires.whole
    c.learn_sixteen.ensures.bytes c.learn_sixteen.ensures.count c.in-Some.row c.in-Some.ensures.value.reads
