use Rattle.std.proofs.Common.{◌∙◌, length, get_or, sym, refl, arith}
use Rattle.lrc_code.specs.declared.places.Place.TheVariants.{X0}
use Rattle.lrc_code.specs.Sets.{is_in}
use Rattle.lrc_c.specs.Lent.{lent}
use Rattle.lrc_c.specs.Arguments.{code_numbered}
use Rattle.lrc_c.specs.RebuiltMany.{target_at, AreAnswered}
use Rattle.lrc_c.proofs.Exports.{same_code, said_of}
use Rattle.lrc_c.proofs.Many.{answered, four_asked, four_ready}
use Rattle.lrc_c.proofs.rebuilding_many.lrc_rebuild_many_into.Goals as goal

pub rebuild_four-found-requires-clause-ready : goal.rebuild_four-found-requires-clause-ready
rebuild_four-found-requires-clause-ready c =
    four_ready c.in-Some.own (is_in c.set_of-set.result) c.args.len c.args.targets.now (length c.args.a.now) (length c.args.b.now)
    (length c.args.c.now) (length c.args.d.now) c.in-Some-targets_of.asked c.in-Some-targets_of.ensures

pub returns-clause-answer : goal.returns-clause-answer
returns-clause-answer c = λ o h.
    let own = c.in-Some.own in
    let statuses = c.rebuild_four-found.result in
    let found = c.rebuild_four-found.ensures in
    let new = c.rebuild_four-found.new in
    let survives = is_in c.set_of-set.result in
    let at = lent c.args.at.now in
    let len = c.args.len in
    let numbers = c.args.targets.now in
    let targets = c.in-Some-targets_of.asked in
    let are = c.in-Some-targets_of.ensures in
    said_of (λ x s q. AreAnswered x s at len numbers statuses new.a new.b new.c new.d)
    c.args.survivors c.set_of-set.result own o X0 X0 c.set_of-set.ensures
    (same_code (code_numbered c.args.code) own o (sym c.code_numbered.ensures ∙ c.in-Some.is) h.code_is) refl (record {
      first = answered own survives at len (get_or numbers 0 0) (get_or statuses 0 0) new.a
          (length c.args.a.now) (target_at targets 0) are.first found.first;
      second = answered own survives at len (get_or numbers 1 0) (get_or statuses 1 0) new.b
          (length c.args.b.now) (target_at targets 1) are.second found.second;
      third = answered own survives at len (get_or numbers 2 0) (get_or statuses 2 0) new.c
          (length c.args.c.now) (target_at targets 2) are.third found.third;
      fourth = answered own survives at len (get_or numbers 3 0) (get_or statuses 3 0) new.d
          (length c.args.d.now) (target_at targets 3) are.fourth found.fourth;
    })

pub returns-clause-refused : goal.returns-clause-refused
returns-clause-refused c = λ none. absurd (none c.in-Some.own (four_asked c.in-Some.own c.args.survivors c.set_of-set.result
    (lent c.args.at.now) c.args.len c.args.code c.args.targets.now (length c.args.a.now) (length c.args.b.now) (length c.args.c.now)
    (length c.args.d.now) c.in-Some-targets_of.asked c.set_of-set.ensures (sym c.code_numbered.ensures ∙ c.in-Some.is)
    (omega (arith, c.if-len-eq0.false)) (c.if-not-are_whole.ensures.0 refl) c.in-Some-targets_of.ensures))
