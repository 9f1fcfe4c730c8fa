use Rattle.std.proofs.Common.{◌∙◌, sym, length}
use Rattle.std.proofs.lemmas.Bool.{eqb-false}
use Rattle.std.proofs.lemmas.Result.{IfOk-weaker}
use Rattle.farm_lists.proofs.RecordFields.{places_by_parts}
use Rattle.farm_lists.proofs.listing.parse_places.Goals as goal

pub returns : goal.returns
returns c =
    IfOk-weaker c.parse_names.result _ _ (λ v e. e ∙ places_by_parts c.args.code c.args.text.now c.as_slice.result.now
    c.in_ok-names.names.items (eqb-false (length c.args.text.now) 0
    (sym c.if-is_empty.ensures)) c.as_slice.ensures.value c.in_ok-names.ensures) c.parse_names.ensures
