use Rattle.std.proofs.Common.{◌∙◌, sym, map, refl}
use Rattle.lrc_code.specs.Places.{all_places}
use Rattle.lrc_plan.specs.Evaluation.{byte_at}
use Rattle.lrc_plan.proofs.TermRows.{blank_sum}
use Rattle.lrc_plan.proofs.solving.terms.is_zero.Goals as goal

pub returns-then-is_blank : goal.returns-then-is_blank
returns-then-is_blank c = (
  λ t i h. blank_sum c.args.row.now (map (byte_at c.args.request.now i) all_places) (sym c.is_blank.ensures ∙ c.if-is_blank.true),
  λ zero. refl,
)
