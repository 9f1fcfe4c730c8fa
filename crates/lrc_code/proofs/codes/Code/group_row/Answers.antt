use Rattle.std.proofs.Common.{ap, ◌∙◌}
use Rattle.lrc_code.specs.Reduction.{row_at}
use Rattle.lrc_code.proofs.CodeTables.{group_of_x, group_of_y}
use Rattle.lrc_code.proofs.codes.Code.group_row.Goals as goal

pub returns-in-X : goal.returns-in-X
returns-in-X c = rw c.in-X.is (c.elements_of.ensures ∙ ap (λ rows. row_at rows 0) c.equations.ensures ∙ group_of_x c.args.self)

pub returns-in-Y : goal.returns-in-Y
returns-in-Y c = rw c.in-Y.is (c.elements_of-in-Y.ensures ∙ ap (λ rows. row_at rows 1) c.equations.ensures ∙ group_of_y c.args.self)
