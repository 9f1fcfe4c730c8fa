use Rattle.std.proofs.Common.{ap, ◌∙◌, sym, subst}
use Rattle.lrc_code.specs.Codes.{tables_of}
use Rattle.lrc_code.specs.Sets.{is_in}
use Rattle.lrc_plan.specs.RowPlans.{IsValueRow}
use Rattle.store_repair.specs.Files.{unit_row}
use Rattle.store_repair.proofs.ReadingLemmas.{own_row}
use Rattle.store_repair.proofs.file_reading.row_of.Goals as goal

pub returns-then-has : goal.returns-then-has
returns-then-has c = subst (IsValueRow (tables_of c.args.code) (is_in c.args.survivors) c.args.place)
    (sym (c.unit_row.ensures ∙ ap unit_row c.index.ensures.value))
    (own_row (tables_of c.args.code) (is_in c.args.survivors) c.args.place (sym c.has.ensures ∙ c.if-has.true))
