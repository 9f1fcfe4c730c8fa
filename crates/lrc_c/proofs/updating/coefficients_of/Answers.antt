use Rattle.std.proofs.Common.{ℕ, List, ap, ◌∙◌}
use Rattle.lrc_code.specs.Codes.{tables_of}
use Rattle.lrc_code.specs.Reduction.{coefficient_at, row_at}
use Rattle.lrc_code.proofs.Encodings.{parities_by_row}
use Rattle.lrc_c.proofs.EncodeLemmas.{own_rows}
use Rattle.lrc_c.proofs.UpdateLaws.{coefficients}
use Rattle.lrc_c.proofs.updating.coefficients_of.Goals as goal

pub returns : goal.returns
returns c =
    let along = λ (row : List ℕ). ap (λ ps. coefficient_at ps row c.args.place) c.places-places.ensures in
    let rows = own_rows c.args.code c.data_count-count.result _ _ _ _ c.parities-rows.ensures c.data_count-count.ensures
    ∙ parities_by_row c.args.code in
    let row = λ (i : ℕ). ap (λ rs. coefficient_at (tables_of c.args.code).places (row_at rs i) c.args.place) rows in
    coefficients c.args.code c.args.place _ _ _ _
    (c.coefficient_of.ensures ∙ along _ ∙ row 0) (c.coefficient_of-2.ensures ∙ along _ ∙ row 1)
    (c.coefficient_of-3.ensures ∙ along _ ∙ row 2) (c.coefficient_of-4.ensures ∙ along _ ∙ row 3)
