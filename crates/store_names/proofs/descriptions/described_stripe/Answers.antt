use Rattle.std.proofs.Common.{◌∙◌, sym, ap, arith, length}
use Rattle.std.proofs.lemmas.Bool.{eqb-true}
use Rattle.store_names.proofs.Described.{said_by_second}
use Rattle.store_names.proofs.descriptions.described_stripe.Goals as goal

pub returns-then-is_empty : goal.returns-then-is_empty
returns-then-is_empty c = λ stripe says.
    let none = eqb-true _ _ (sym c.is_empty.ensures ∙ c.if-is_empty.true) in
    let same = ap length (said_by_second c.args.last.now c.in-Some.stripe.now c.in-Some.ensures stripe says) in
    omega (arith, says.some, none, same)
