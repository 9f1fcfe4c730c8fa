use Rattle.std.proofs.Common.{length, arith, refl}
use Rattle.lrc_code.specs.Codes.{tables_of}
use Rattle.lrc_plan.specs.Stripes.{at_place}
use Rattle.lrc_c.specs.Lent.{lent}
use Rattle.lrc_c.specs.Rebuilt.{IsAnswerAt}
use Rattle.lrc_c.proofs.Exports.{same_lost, said_of, whole_is}
use Rattle.lrc_c.proofs.rebuilding.lrc_rebuild_into.Goals as goal

pub returns-clause-answer : goal.returns-clause-answer
returns-clause-answer c = λ d p h.
    let same = same_lost c.in-Some.ensures h.of_target in (
      c.rebuild-answer.result,
      c.status_of.ensures,
      said_of (λ x s q. IsAnswerAt (tables_of x) s (at_place (lent c.args.at.now))
          (length c.args.out.now) q c.rebuild-answer.result c.rebuild-answer.new.out)
          c.args.survivors c.set_of-set.result c.in-Some.lost.code d c.in-Some.lost.place p c.set_of-set.ensures same.0 same.1
          c.rebuild-answer.ensures,
    )

pub returns-clause-refused : goal.returns-clause-refused
returns-clause-refused c = λ none. absurd (none c.in-Some.lost.code c.in-Some.lost.place (record {
  of_target = c.in-Some.ensures;
  some = omega (arith, c.if-len-eq0.false);
  whole = whole_is c.args.survivors c.set_of-set.result c.in-Some.lost.code (lent c.args.at.now)
      (length c.args.out.now) c.set_of-set.ensures (c.if-not-are_whole.ensures.0 refl);
}))
