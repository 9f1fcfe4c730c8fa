use Rattle.lrc_code.specs.Codes.{tables_of}
use Rattle.lrc_code.specs.Sets.{is_in}
use Rattle.lrc_plan.proofs.Values.{cut_is}
use Rattle.lrc_plan.proofs.RowPlanLaws.{cut_value}
use Rattle.lrc_plan.proofs.plans.group_rows.cut_row.Goals as goal

pub returns-clause-value : goal.returns-clause-value
returns-clause-value c = cut_value (tables_of c.args.code) (is_in c.args.survivors) c.args.target c.args.row _ c.requires.row
    (λ p. cut_is c.args.row c.index.result c.new.result c.args.target p c.index.ensures.value c.new.ensures)

pub returns-clause-cut : goal.returns-clause-cut
returns-clause-cut c = λ p. cut_is c.args.row c.index.result c.new.result c.args.target p c.index.ensures.value c.new.ensures
