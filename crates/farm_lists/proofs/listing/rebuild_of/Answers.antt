use Rattle.std.proofs.Common.{sym, subst}
use Rattle.std.proofs.lemmas.Bool.{false≢true}
use Rattle.std.specs.Str.{IsUtf8}
use Rattle.farm_lists.proofs.RecordFields.{bad_stripe}
use Rattle.farm_lists.proofs.listing.rebuild_of.Goals as goal

pub returns-in_default-from_utf8-clause-err : goal.returns-in_default-from_utf8-clause-err
returns-in_default-from_utf8-clause-err c =
    bad_stripe c.args.code c.args.number c.args.fields.now.stripe.now c.args.fields.now.target.now c.args.fields.now.length.now
    c.args.fields.now.survivors.now
    c.in-Some.target c.in-Some-parse_number.length c.in-Some-2.survivors.items c.in-Some.ensures c.in-Some-parse_number.ensures
    (rw c.in-Some-2.is at c.in_ok-survivors.ensures)
    (λ text. false≢true (c.in_default-from_utf8.ensures.succeeds (subst IsUtf8 (sym c.in_ok-from_slice.ensures.items) text)))
