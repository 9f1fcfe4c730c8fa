use Rattle.std.proofs.Common.{arith, rules}
use Rattle.csv.specs.Records.{fields_of}
use Rattle.farm_lists.proofs.Five.{all_fields, none_missing, none_or}
use Rattle.farm_lists.proofs.listing.fields_in.Goals as goal

pub returns-in_err-get-clause-other : goal.returns-in_err-get-clause-other
returns-in_err-get-clause-other c = none_or _ _ (none_missing c.args.coded (fields_of c.args.row.now) 0 (omega arith)
    c.in_err-get.ensures.value)

pub returns-in_err-get-2-clause-other : goal.returns-in_err-get-2-clause-other
returns-in_err-get-2-clause-other c = none_or _ _ (none_missing c.args.coded (fields_of c.args.row.now) 1 (omega arith)
    c.in_err-get-2.ensures.value)

pub returns-in_err-get-3-clause-other : goal.returns-in_err-get-3-clause-other
returns-in_err-get-3-clause-other c = none_or _ _ (none_missing c.args.coded (fields_of c.args.row.now) 2 (omega arith)
    c.in_err-get-3.ensures.value)

pub returns-in_err-get-4-clause-other : goal.returns-in_err-get-4-clause-other
returns-in_err-get-4-clause-other c = none_or _ _ (none_missing c.args.coded (fields_of c.args.row.now) 3 (omega arith)
    c.in_err-get-4.ensures.value)

pub returns-in_err-get-5-clause-other : goal.returns-in_err-get-5-clause-other
returns-in_err-get-5-clause-other c = none_or _ _ (none_missing c.args.coded (fields_of c.args.row.now) 4 (omega arith)
    c.in_err-get-5.ensures.value)

pub returns-clause-fields : goal.returns-clause-fields
returns-clause-fields c = all_fields c.args.coded (fields_of c.args.row.now) _ _ _ _ _ _ c.in_ok-get.ensures.value
    c.in_ok-get-2.ensures.value c.in_ok-get-3.ensures.value c.in_ok-get-4.ensures.value c.in_ok-get-5.ensures.value
    c.get-6.ensures.value (search rules)
