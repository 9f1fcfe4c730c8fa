use Rattle.std.proofs.Common.{arith}
use Rattle.lrc_c.specs.Lent.{lent}
use Rattle.lrc_c.proofs.Combinations.{terms_zero, where_used, zero_of_four, zero_terms}
use Rattle.lrc_c.proofs.checking.write_if_zero.Goals as goal

pub write_checked-requires-clause-ready : goal.write_checked-requires-clause-ready
write_checked-requires-clause-ready c =
    let at = lent c.args.checks.now.at.now in
    let len = c.args.checks.now.len in
    record {
      first = (c.terms_in.ensures.terms len (where_used _ at len (c.requires.used 0 _ (omega arith)))).room;
      second = (c.terms_in-2.ensures.terms len (where_used _ at len (c.requires.used 1 _ (omega arith)))).room;
      third = (c.terms_in-3.ensures.terms len (where_used _ at len (c.requires.used 2 _ (omega arith)))).room;
      fourth = (c.terms_in-4.ensures.terms len (where_used _ at len (c.requires.used 3 _ (omega arith)))).room;
    }

pub returns-clause-zero : goal.returns-clause-zero
returns-clause-zero c = λ t.
    let at = lent c.args.checks.now.at.now in
    let len = c.args.checks.now.len in
    let z = c.write_checked.ensures.zero t in
    zero_of_four c.args.checks.now.rows at len (omega arith)
    (terms_zero _ at len _ (c.terms_in.ensures.terms len (where_used _ at len (c.requires.used 0 _ (omega arith)))) z.first)
    (terms_zero _ at len _ (c.terms_in-2.ensures.terms len (where_used _ at len (c.requires.used 1 _ (omega arith)))) z.second)
    (terms_zero _ at len _ (c.terms_in-3.ensures.terms len (where_used _ at len (c.requires.used 2 _ (omega arith)))) z.third)
    (terms_zero _ at len _ (c.terms_in-4.ensures.terms len (where_used _ at len (c.requires.used 3 _ (omega arith)))) z.fourth)

pub returns-clause-no : goal.returns-clause-no
returns-clause-no c = λ f zero.
    let at = lent c.args.checks.now.at.now in
    let len = c.args.checks.now.len in
    c.write_checked.ensures.no f (record {
      first = zero_terms _ at len _ (c.terms_in.ensures.terms len (where_used _ at len (c.requires.used 0 _ (omega arith))))
          (zero 0 _ (omega arith));
      second = zero_terms _ at len _ (c.terms_in-2.ensures.terms len (where_used _ at len (c.requires.used 1 _ (omega arith))))
          (zero 1 _ (omega arith));
      third = zero_terms _ at len _ (c.terms_in-3.ensures.terms len (where_used _ at len (c.requires.used 2 _ (omega arith))))
          (zero 2 _ (omega arith));
      fourth = zero_terms _ at len _ (c.terms_in-4.ensures.terms len (where_used _ at len (c.requires.used 3 _ (omega arith))))
          (zero 3 _ (omega arith));
    })
