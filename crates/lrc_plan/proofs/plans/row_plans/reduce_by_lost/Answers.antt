use Rattle.lrc_code.specs.Codes.{tables_of}
use Rattle.lrc_code.specs.Sets.{is_in}
use Rattle.lrc_plan.proofs.ReductionRows.{reduction_of}
use Rattle.lrc_plan.proofs.plans.row_plans.reduce_by_lost.Goals as goal

pub returns : goal.returns
returns c = reduction_of (tables_of c.args.code) (is_in c.args.survivors) (is_in c.others-lost.result) _
    c.others-lost.ensures c.reduce_in.ensures
