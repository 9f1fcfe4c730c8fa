use Rattle.std.proofs.Common.{None}
use Rattle.folders.specs.Given.{IsNewAt}
use Rattle.store_folder.proofs.Written.{puts_nothing}
use Rattle.store_encoding.proofs.taking.take_file.Goals as goal

pub returns-in-Ok-2-clause-one : goal.returns-in-Ok-2-clause-one
returns-in-Ok-2-clause-one g c = puts_nothing (IsNewAt c.args.path.now None) _

pub returns-in-Err-clause-one : goal.returns-in-Err-clause-one
returns-in-Err-clause-one g c = puts_nothing (IsNewAt c.args.path.now None) _

pub returns-in-Err-2-clause-one : goal.returns-in-Err-2-clause-one
returns-in-Err-2-clause-one g c = puts_nothing (IsNewAt c.args.path.now None) _
