use Rattle.std.proofs.lemmas.Result.{err_from_is_err_and}
use Rattle.csv.specs.Records.{fields_of}
use Rattle.farm_lists.proofs.Orders.{push_fault, push_many, push_order}
use Rattle.farm_lists.proofs.listing.take_row.Goals as goal

pub returns-then-number-gt-MOST_RECORDS-clause-err : goal.returns-then-number-gt-MOST_RECORDS-clause-err
returns-then-number-gt-MOST_RECORDS-clause-err c = λ rows e so. push_many c.args.coded.now rows _
    (fields_of c.args.row.now) c.args.number e c.if-number-gt-MOST_RECORDS.true so

pub returns-in_err-order-clause-err : goal.returns-in_err-order-clause-err
returns-in_err-order-clause-err c =
    let p = err_from_is_err_and c.from_residual.result c.from_residual.ensures.1 in
    rw (p.1, p.2) (λ rows e so. push_fault c.in_err-order.field-0.0 c.args.coded.now rows _
    (fields_of c.args.row.now) c.args.number e c.if-number-eq0.false c.if-number-gt-MOST_RECORDS.false so c.in_err-order.ensures.err)

pub returns-clause-ok : goal.returns-clause-ok
returns-clause-ok c = (
  c.if-number-gt-MOST_RECORDS.false,
  λ rows e so.
      rw c.in_ok-push.ensures.items
      (push_order c.args.coded.now rows _ (fields_of c.args.row.now) c.args.number c.in_ok-order.order e c.if-number-eq0.false
      c.if-number-gt-MOST_RECORDS.false so c.in_ok-order.ensures.ok),
)
