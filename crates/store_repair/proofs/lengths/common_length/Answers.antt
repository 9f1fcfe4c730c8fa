use Rattle.std.proofs.Common.{◌+◌, ℕ, Option, subst, sym}
use Rattle.std.specs.Prelude.{IfSome}
use Rattle.store_repair.specs.Lengths.{HasFileOf, HaveOneLengthBefore}
use Rattle.store_repair.proofs.LengthLemmas.{have_one_length, next_file, next_none, no_common, of_several}
use Rattle.store_repair.proofs.lengths.common_length.Goals as goal
use Rattle.store_repair.proofs.lengths.common_length.Goals.{in-Some+else-not-is_in_common, in_default}

pub loop-index-preserved : goal.loop-index-preserved
loop-index-preserved c =
    let code = c.args.code in
    let files = c.args.files.now.found in
    let n = c.loop-index.index in
    let p = c.nth_place.result in
    let common = c.loop-index.common in
    let after = HaveOneLengthBefore code files (n + 1) in
    let some = λ (o : Option ℕ). IfSome o (HasFileOf code files) in
    record {
      before = elim c.match-length_at.branch as (λ _. after c.match-length_at.common) [
        | in-Some+else-not-is_in_common w ↦ subst after (sym w.common-is)
            (next_file code files n p c.nth_place.ensures common w.in-Some.length (w.is_in_common.ensures.yes w.if-not-is_in_common.false)
            w.in-Some.ensures.each c.loop-index.invariant.before)
        | in_default w ↦ subst after (sym w.common-is)
            (next_none code files n p c.nth_place.ensures common w.in_default.ensures.each c.loop-index.invariant.before)
      ];
      some = elim c.match-length_at.branch as (λ _. some c.match-length_at.common) [
        | in-Some+else-not-is_in_common w ↦ subst some (sym w.common-is) (p, w.in-Some.ensures.some)
        | in_default w ↦ subst some (sym w.common-is) c.loop-index.invariant.some
      ];
    }

pub returns-clause-each : goal.returns-clause-each
returns-clause-each c =
    have_one_length c.args.code c.args.files.now.found c.loop-index.index c.loop-index.common c.loop-index-test.false
    c.loop-index.invariant.before

pub returns-clause-several : goal.returns-clause-several
returns-clause-several c =
    no_common c.args.code c.args.files.now.found c.loop-index.index c.loop-index.common c.loop-index-test.false
    c.loop-index.invariant.before

pub returns-then-not-is_in_common-clause-several : goal.returns-then-not-is_in_common-clause-several
returns-then-not-is_in_common-clause-several c =
    of_several c.args.code c.args.files.now.found c.in-Some.length c.loop-index.common
    (c.is_in_common.ensures.no c.if-not-is_in_common.true) c.loop-index.invariant.some (c.nth_place.result, c.in-Some.ensures.some)
