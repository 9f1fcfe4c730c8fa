use Rattle.std.proofs.Common.{length, arith}
use Rattle.lrc_code.specs.Sets.{is_in}
use Rattle.lrc_c.specs.Lent.{lent}
use Rattle.lrc_c.specs.RebuiltMany.{target_at}
use Rattle.lrc_c.proofs.Many.{target_answered}
use Rattle.lrc_c.proofs.PairRows.{couple_of, has_room}
use Rattle.lrc_plan.proofs.Stripes.{used}
use Rattle.lrc_c.proofs.rebuilding_many.rebuild_four.Goals as goal

pub write_if_zero-possible-requires-clause-used : goal.write_if_zero-possible-requires-clause-used
write_if_zero-possible-requires-clause-used c =
    let survivors = c.args.survivors.now in
    used survivors.code (is_in survivors.set) (lent survivors.at.now) survivors.len c.requires.whole
    c.learn_sixteen.ensures.bytes c.learn_sixteen.ensures.count c.checks_from-rows.result c.checks_from-rows.ensures.checks

pub write_if_zero-possible-requires-clause-rooms : goal.write_if_zero-possible-requires-clause-rooms
write_if_zero-possible-requires-clause-rooms c =
    let code = c.args.survivors.now.code in
    let survives = is_in c.args.survivors.now.set in
    let at = lent c.args.survivors.now.at.now in
    let len = c.args.survivors.now.len in
    let targets = c.args.targets in
    record {
      front = record {
        first = has_room code survives at len (length c.args.a.now) (target_at targets 0) _ _ c.wanted_of.result
            c.requires.ready.first c.aim_of.ensures.aim c.wanted_of.ensures;
        second = has_room code survives at len (length c.args.b.now) (target_at targets 1) _ _ c.wanted_of-2.result
            c.requires.ready.second c.aim_of-2.ensures.aim c.wanted_of-2.ensures;
        pairs = couple_of code survives at len (length c.args.a.now) (length c.args.b.now) (target_at targets 0)
            (target_at targets 1) _ _ _ _ c.wanted_of.result c.wanted_of-2.result _
            c.requires.ready.first c.requires.ready.second c.aim_of.ensures.aim c.aim_of-2.ensures.aim c.wanted_of.ensures
            c.wanted_of-2.ensures c.pairs_of.ensures;
      };
      back = record {
        first = has_room code survives at len (length c.args.c.now) (target_at targets 2) _ _ c.wanted_of-3.result
            c.requires.ready.third c.aim_of-3.ensures.aim c.wanted_of-3.ensures;
        second = has_room code survives at len (length c.args.d.now) (target_at targets 3) _ _ c.wanted_of-4.result
            c.requires.ready.fourth c.aim_of-4.ensures.aim c.wanted_of-4.ensures;
        pairs = couple_of code survives at len (length c.args.c.now) (length c.args.d.now) (target_at targets 2)
            (target_at targets 3) _ _ _ _ c.wanted_of-3.result c.wanted_of-4.result _
            c.requires.ready.third c.requires.ready.fourth c.aim_of-3.ensures.aim c.aim_of-4.ensures.aim c.wanted_of-3.ensures
            c.wanted_of-4.ensures c.pairs_of-2.ensures;
      };
    }

pub returns : goal.returns
returns c =
    let survivors = c.args.survivors.now in
    let written = c.write_if_zero-possible in
    let answered = target_answered survivors.code (is_in survivors.set) (lent survivors.at.now) survivors.len c.requires.whole
    c.learn_sixteen.ensures.bytes c.learn_sixteen.ensures.count c.checks_from-rows.result c.checks_from-rows.ensures.checks
    c.requires.some written.result in
    record {
      first = answered (target_at c.args.targets 0) _ _ c.wanted_of.result written.new.a (length c.args.a.now)
          c.status_at.result written.ensures.zero written.ensures.no c.requires.ready.first c.aim_of.ensures.aim c.wanted_of.ensures
          (λ t. (written.ensures.written t).first) (omega arith) c.status_at.ensures;
      second = answered (target_at c.args.targets 1) _ _ c.wanted_of-2.result written.new.b (length c.args.b.now)
          c.status_at-2.result written.ensures.zero written.ensures.no c.requires.ready.second c.aim_of-2.ensures.aim c.wanted_of-2.ensures
          (λ t. (written.ensures.written t).second) (omega arith) c.status_at-2.ensures;
      third = answered (target_at c.args.targets 2) _ _ c.wanted_of-3.result written.new.c (length c.args.c.now)
          c.status_at-3.result written.ensures.zero written.ensures.no c.requires.ready.third c.aim_of-3.ensures.aim c.wanted_of-3.ensures
          (λ t. (written.ensures.written t).third) (omega arith) c.status_at-3.ensures;
      fourth = answered (target_at c.args.targets 3) _ _ c.wanted_of-4.result written.new.d (length c.args.d.now)
          c.status_at-4.result written.ensures.zero written.ensures.no c.requires.ready.fourth c.aim_of-4.ensures.aim c.wanted_of-4.ensures
          (λ t. (written.ensures.written t).fourth) (omega arith) c.status_at-4.ensures;
    }
