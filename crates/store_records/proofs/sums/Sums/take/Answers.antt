use Rattle.std.proofs.Common.{◌≡◌, ◌∙◌, sym, ap, refl, inr, false, Some}
use Rattle.std.proofs.lemmas.Bool.{not-true}
use Rattle.std.specs.Str.{bytes_eq}
use Rattle.store_records.specs.Sums.{digest_in}
use Rattle.store_records.proofs.OneName.{changed}
use Rattle.store_records.proofs.sums.Sums.take.Goals as goal

pub returns-then-ne-clause-refused : goal.returns-then-ne-clause-refused
returns-then-ne-clause-refused c =
    let found : digest_in c.args.self.now c.args.sum.name.items ≡ Some c.in-Some.earlier.now
    = ap (λ t. digest_in c.args.self.now t) (sym c.as_slice.ensures.value) ∙ sym c.in-Some.ensures.value in
    let differs : bytes_eq c.in-Some.earlier.now c.args.sum.digest ≡ false = not-true _ (sym c.ne.ensures ∙ c.if-ne.true) in
    inr (rw (found, differs) refl)

pub returns-clause-said : goal.returns-clause-said
returns-clause-said c = λ name. changed c.args.sum.name.items name c.args.self.now.digests c.insert.new.self (Some c.args.sum.digest)
    c.in_ok-insert.ensures.updates
