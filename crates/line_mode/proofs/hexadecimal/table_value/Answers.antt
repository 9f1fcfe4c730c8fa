use Rattle.std.proofs.Common.{◌∙◌}
use Rattle.line_mode.proofs.Digits.{table_is}
use Rattle.line_mode.proofs.hexadecimal.table_value.Goals as goal

pub returns : goal.returns
returns c = c.listed_value.ensures ∙ table_is c.args.digit c.ranges.digit.fits
