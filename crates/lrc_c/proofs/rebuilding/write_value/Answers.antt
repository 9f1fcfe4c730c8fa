use Rattle.std.proofs.Common.{length, refl, arith}
use Rattle.lrc_c.specs.Lent.{lent}
use Rattle.lrc_c.proofs.Combinations.{where_used}
use Rattle.lrc_c.proofs.EncodeLemmas.{parity}
use Rattle.lrc_c.proofs.PairRows.{alone, nothing}
use Rattle.lrc_c.proofs.rebuilding.write_value.Goals as goal

pub write_if_zero-requires-clause-rooms : goal.write_if_zero-requires-clause-rooms
write_if_zero-requires-clause-rooms c =
    let at = lent c.args.checks.now.at.now in
    let len = c.args.checks.now.len in
    let terms = c.terms_in.ensures.terms len (where_used c.args.row.now at len c.requires.row) in
    let back = c.nothing.ensures in
    record {
      front = alone len _ (length c.args.out.now) 0 (terms.room, c.requires.len) tt refl;
      back = nothing len c.nothing.result 0 0 back.first back.second back.pairs;
    }

pub returns-clause-value : goal.returns-clause-value
returns-clause-value c = λ t.
    let at = lent c.args.checks.now.at.now in
    let len = c.args.checks.now.len in
    parity c.args.row.now at len _ c.write_if_zero.new.a (c.terms_in.ensures.terms len (where_used c.args.row.now at len c.requires.row))
    (omega arith) (c.write_if_zero.ensures.written t).first
