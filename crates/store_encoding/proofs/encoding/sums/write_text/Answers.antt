use Rattle.std.proofs.Common.{Some}
use Rattle.folders.specs.Given.{IsNewAt}
use Rattle.store_folder.proofs.Written.{puts_nothing}
use Rattle.store_encoding.proofs.encoding.sums.write_text.Goals as goal

pub returns-in_err-allow_file-clause-whenever : goal.returns-in_err-allow_file-clause-whenever
returns-in_err-allow_file-clause-whenever g c = puts_nothing (IsNewAt c.args.path.now (Some c.args.text.now)) _
