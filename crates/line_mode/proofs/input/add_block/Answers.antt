use Rattle.std.proofs.Common.{rules}
use Rattle.line_mode.proofs.input.add_block.Goals as goal

pub returns-then-block-len-clause-added : goal.returns-then-block-len-clause-added
returns-then-block-len-clause-added c = search rules
