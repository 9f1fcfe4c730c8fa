use Rattle.std.proofs.Common.{arith, length-take-le}
use borrow.Rule.Slice.PartMut.{take_put}
use Rattle.farm_shelves.proofs.Fronts.{read_lands}
use Rattle.farm_shelves.proofs.regular_files.read_at.Goals as goal

pub returns-clause-front : goal.returns-clause-front
returns-clause-front g c = take_put _ _ c.args.bytes.now _ (omega (arith, c.requires))

pub returns-clause-ok : goal.returns-clause-ok
returns-clause-ok g c =
    read_lands _ _ c.read.result _ c.read.new.buf _ c.args.got (length-take-le _ c.args.bytes.now (omega (arith, c.requires)))
    c.read.ensures.bound c.read.ensures.bytes
