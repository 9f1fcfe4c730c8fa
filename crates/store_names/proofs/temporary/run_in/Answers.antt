use Rattle.store_names.proofs.RunTexts.{after_part, alone_in, later_in}
use Rattle.store_names.proofs.temporary.run_in.Goals as goal

pub returns-in_err-after-in-Some-2 : goal.returns-in_err-after-in-Some-2
returns-in_err-after-in-Some-2 c = absurd (c.in_err-after-in-Some-2.ensures _ (after_part c.args.text.now c.in_ok-left.left.now
    c.in_ok-left.field-0-1.now c.in-Some.part.now c.in-Some.field-0-1.now c.in_ok-after-in-Some.field-0.now c.in_ok-left.ensures.is
    c.in-Some.ensures.is c.in_ok-after-in-Some.ensures))

pub returns-in_ok-after-in-Some-2 : goal.returns-in_ok-after-in-Some-2
returns-in_ok-after-in-Some-2 c = later_in c.args.text.now c.in_ok-left.left.now c.in_ok-left.field-0-1.now c.in-Some.part.now
    c.in-Some.field-0-1.now c.in_ok-after-in-Some.field-0.now c.in_ok-after-in-Some-2.field-0.now c.in_ok-left.ensures c.in-Some.ensures
    c.in_ok-after-in-Some.ensures c.in_ok-after-in-Some-2.ensures

pub returns-in-None : goal.returns-in-None
returns-in-None c = alone_in c.args.text.now c.in_ok-left.left.now c.in_ok-left.field-0-1.now c.in_ok-left.ensures c.in-None.ensures
