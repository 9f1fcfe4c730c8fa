use Rattle.std.proofs.Common.{refl, ◌∙◌, sym, ap, slice_index}
use Rattle.lrc_code.specs.Codes.{tables_of}
use Rattle.lrc_code.specs.Places.{group_of, index_of}
use Rattle.lrc_code.specs.Sets.{is_in}
use Rattle.lrc_code.proofs.CodeTables.{at_index}
use Rattle.lrc_plan.specs.PlanParts.{cut}
use Rattle.lrc_code.specs.Groups.{group_coefficient, group_row}
use Rattle.lrc_plan.proofs.Values.{group_target_row, not_local}
use Rattle.lrc_plan.proofs.plans.group_rows.local_row.Goals as goal

pub cut_row-requires-clause-row : goal.cut_row-requires-clause-row
cut_row-requires-clause-row c = group_target_row c.args.code
    (is_in c.args.survivors) c.args.target c.in_ok-group.field-0 c.group_row-row.result c.requires.place
    (sym c.in_ok-group.ensures) c.group_row-row.ensures c.if-determines.ensures.yes

pub returns-then-determines : goal.returns-then-determines
returns-then-determines c = (
  c.cut_row.ensures.value,
  λ p. c.cut_row.ensures.cut p ∙ ap (λ n. cut (λ q. n) c.args.target p)
      (ap (λ xs. slice_index xs (index_of p)) (c.group_row-row.ensures ∙ ap (group_row (tables_of c.args.code)) c.in_ok-group.ensures)
      ∙ at_index (group_coefficient (tables_of c.args.code) (group_of c.args.target)) p),
)

pub returns : goal.returns
returns c = not_local c.args.code (is_in c.args.survivors) c.args.target c.group_row-row.result
    (c.group_row-row.ensures ∙ ap (group_row (tables_of c.args.code)) c.in_ok-group.ensures) (c.if-determines.ensures.no refl)
