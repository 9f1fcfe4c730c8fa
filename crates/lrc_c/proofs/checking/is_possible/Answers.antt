use Rattle.std.proofs.lemmas.Bool.{both_ways}
use Rattle.lrc_code.specs.Sets.{is_in}
use Rattle.lrc_c.specs.Lent.{lent}
use Rattle.lrc_plan.proofs.Stripes.{used, contradiction, possible}
use Rattle.lrc_c.proofs.checking.is_possible.Goals as goal

pub are_zero-requires : goal.are_zero-requires
are_zero-requires c = used c.args.code (is_in c.args.set) (lent c.args.at.now) c.args.len c.requires
    c.learn_sixteen.ensures.bytes c.learn_sixteen.ensures.count c.check_rows-rows.result c.check_rows-rows.ensures

pub returns-clause-yes : goal.returns-clause-yes
returns-clause-yes c = λ t. possible c.args.code (is_in c.args.set) (lent c.args.at.now) c.args.len c.requires
    c.learn_sixteen.ensures.bytes c.learn_sixteen.ensures.count c.check_rows-rows.result c.check_rows-rows.ensures
    (c.are_zero.ensures.0 t)

pub returns-clause-no : goal.returns-clause-no
returns-clause-no c = λ f. contradiction c.args.code (is_in c.args.set) (lent c.args.at.now) c.args.len c.requires
    c.learn_sixteen.ensures.bytes c.learn_sixteen.ensures.count c.check_rows-rows.result c.check_rows-rows.ensures
    (λ zero. both_ways _ f (c.are_zero.ensures.1 zero))
