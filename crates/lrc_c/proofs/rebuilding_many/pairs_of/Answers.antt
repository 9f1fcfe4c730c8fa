use Rattle.std.proofs.Common.{subst, sym}
use Rattle.lrc_c.specs.Lent.{lent}
use Rattle.lrc_c.specs.RebuiltMany.{ArePairsOfBoth, IsUsedRow}
use Rattle.lrc_c.specs.declared.rebuilding_many.Aim.TheVariants as aim
use Rattle.lrc_c.proofs.Combinations.{where_used}
use Rattle.lrc_c.proofs.rebuilding_many.pairs_of.Goals as goal

pub returns : goal.returns
returns c =
    let at = lent c.args.survivors.now.at.now in
    let len = c.args.survivors.now.len in
    let first = c.in-Sums.first in
    let second = c.in-Sums-other.second in
    let ps = c.pairs_in.result.now in
    subst (λ a. ArePairsOfBoth a c.args.other.now at len ps) (sym c.in-Sums.is)
    (subst (λ b. ArePairsOfBoth (aim.Sums first) b at len ps) (sym c.in-Sums-other.is) (λ some.
    c.pairs_in.ensures.pairs len (where_used first at len (subst (λ a. IsUsedRow a at len) c.in-Sums.is c.requires.first))
    (where_used second at len (subst (λ a. IsUsedRow a at len) c.in-Sums-other.is c.requires.second))))
