use Rattle.lrc_field.proofs.Tests.{fails}
use Rattle.std.proofs.Common.{length, refl}
use Rattle.lrc_c.specs.Lent.{lent}
use Rattle.lrc_plan.proofs.Stripes.{applied, row_used}
use Rattle.lrc_c.proofs.planning.lrc_apply.Goals as goal

pub returns-then-not-are_used-clause-planned : goal.returns-then-not-are_used-clause-planned
returns-then-not-are_used-clause-planned c = λ d survives p of_code value whole s f.
    absurd (fails c.if-not-are_used.ensures refl
    (row_used d survives (lent c.args.at.now) (length c.args.out.now) whole c.learn_sixteen.ensures.bytes c.learn_sixteen.ensures.count
    c.args.row.now value.reads))

pub returns-clause-planned : goal.returns-clause-planned
returns-clause-planned c = λ d survives p of_code value whole s f.
    applied d survives (lent c.args.at.now) (length c.args.out.now) whole c.learn_sixteen.ensures.bytes c.learn_sixteen.ensures.count
    p of_code c.args.row.now c.combine.new.out value c.combine.ensures s f
