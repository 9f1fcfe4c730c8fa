use Rattle.std.proofs.Common.{length, arith}
use Rattle.lrc_c.specs.Lent.{lent}
use Rattle.lrc_c.proofs.Combinations.{where_used}
use Rattle.lrc_c.proofs.EncodeLemmas.{parity}
use Rattle.lrc_c.proofs.combining.combine.Goals as goal

pub write_window-requires-clause-ready : goal.write_window-requires-clause-ready
write_window-requires-clause-ready c =
    (c.terms_in-terms.ensures.terms (length c.args.out.now) (where_used c.args.coefficients.now (lent c.args.at.now) (length c.args.out.now)
    c.requires.used)).room

pub returns : goal.returns
returns c =
    let len = length c.args.out.now in
    parity c.args.coefficients.now (lent c.args.at.now) len c.terms_in-terms.result.now c.write_window.new.out
    (c.terms_in-terms.ensures.terms len (where_used c.args.coefficients.now (lent c.args.at.now) len c.requires.used))
    c.write_window.ensures.len (c.write_window.ensures.sums (λ k lt. absurd (omega (arith, lt))))
