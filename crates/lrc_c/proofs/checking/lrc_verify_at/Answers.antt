use Rattle.std.proofs.Common.{sym, inr, refl, ◌∙◌}
use Rattle.lrc_code.specs.declared.places.Place.TheVariants.{X0}
use Rattle.lrc_code.specs.Codes.{tables_of}
use Rattle.lrc_plan.specs.Stripes.{at_place, IsContradiction}
use Rattle.lrc_c.specs.Lent.{lent}
use Rattle.lrc_c.specs.Arguments.{code_numbered}
use Rattle.lrc_c.proofs.Exports.{same_code, said_of}
use Rattle.lrc_c.proofs.checking.lrc_verify_at.Goals as goal

pub returns-else-is_possible-clause-answer : goal.returns-else-is_possible-clause-answer
returns-else-is_possible-clause-answer c = λ d h.
    inr (
      refl,
      said_of (λ x s q. IsContradiction (tables_of x) s (at_place (lent c.args.at.now)) c.args.len)
          c.args.survivors c.set_of-set.result c.in-Some.own d X0 X0 c.set_of-set.ensures
          (same_code (code_numbered c.args.code) c.in-Some.own d (sym c.code_numbered.ensures ∙ c.in-Some.is) h.code_is) refl
          (c.if-is_possible.ensures.no refl),
    )
