use Rattle.std.proofs.Common.{length, take, refl, arith}
use Rattle.lrc_c.specs.Lent.{lent}
use Rattle.lrc_c.proofs.EncodeLemmas.{all_where_used, parity}
use Rattle.lrc_c.proofs.PairRows.{couple}
use Rattle.lrc_c.proofs.encoding.write_parities.Goals as goal

pub write_all-requires : goal.write_all-requires
write_all-requires c =
    let at = lent c.args.sources.now in
    let len = length c.args.px.now in
    let n = length c.args.sources.now in
    let used_x = all_where_used (take n c.args.rows.now.px) at len c.requires.lengths in
    let used_y = all_where_used (take n c.args.rows.now.py) at len c.requires.lengths in
    let used_0 = all_where_used (take n c.args.rows.now.p0) at len c.requires.lengths in
    let used_1 = all_where_used (take n c.args.rows.now.p1) at len c.requires.lengths in
    record {
      front = record {
        first = ((c.terms_in.ensures.terms len used_x).room, refl);
        second = ((c.terms_in-2.ensures.terms len used_y).room, c.requires.rooms.0);
        pairs = λ some. absurd (omega (arith, some));
      };
      back = record {
        first = ((c.terms_in-3.ensures.terms len used_0).room, c.requires.rooms.1);
        second = ((c.terms_in-4.ensures.terms len used_1).room, c.requires.rooms.2);
        pairs = λ some. couple len at (take n c.args.rows.now.p0) (take n c.args.rows.now.p1) _ _ _
            (length c.args.p0.now) (length c.args.p1.now) (c.terms_in-3.ensures.terms len used_0)
            (c.terms_in-4.ensures.terms len used_1) (c.pairs_in.ensures.pairs len used_0 used_1) (omega arith) (omega arith);
      };
    }

pub returns-clause-px : goal.returns-clause-px
returns-clause-px c =
    let at = lent c.args.sources.now in
    let len = length c.args.px.now in
    let row = take (length c.args.sources.now) c.args.rows.now.px in
    parity row at len _ c.write_all.new.a (c.terms_in.ensures.terms len (all_where_used row at len c.requires.lengths)) (omega arith)
    c.write_all.ensures.first

pub returns-clause-py : goal.returns-clause-py
returns-clause-py c =
    let at = lent c.args.sources.now in
    let len = length c.args.px.now in
    let row = take (length c.args.sources.now) c.args.rows.now.py in
    parity row at len _ c.write_all.new.b (c.terms_in-2.ensures.terms len (all_where_used row at len c.requires.lengths)) (omega arith)
    c.write_all.ensures.second

pub returns-clause-p0 : goal.returns-clause-p0
returns-clause-p0 c =
    let at = lent c.args.sources.now in
    let len = length c.args.px.now in
    let row = take (length c.args.sources.now) c.args.rows.now.p0 in
    parity row at len _ c.write_all.new.c (c.terms_in-3.ensures.terms len (all_where_used row at len c.requires.lengths)) (omega arith)
    c.write_all.ensures.third

pub returns-clause-p1 : goal.returns-clause-p1
returns-clause-p1 c =
    let at = lent c.args.sources.now in
    let len = length c.args.px.now in
    let row = take (length c.args.sources.now) c.args.rows.now.p1 in
    parity row at len _ c.write_all.new.d (c.terms_in-4.ensures.terms len (all_where_used row at len c.requires.lengths)) (omega arith)
    c.write_all.ensures.fourth
