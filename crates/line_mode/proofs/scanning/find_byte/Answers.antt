use Rattle.std.proofs.Common.{◌==◌}
use Rattle.line_mode.proofs.Searches.{position-first}
use Rattle.line_mode.proofs.scanning.find_byte.Goals as goal

pub returns : goal.returns
returns c = position-first (λ b. b == c.args.byte) c.args.bytes.now c.memchr.result c.memchr.ensures
