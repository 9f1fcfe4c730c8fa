use Rattle.line_mode.proofs.Unique.{replies-unique}
use Rattle.line_mode.proofs.laws.replies_are_unique.Goals as goal

pub returns : goal.returns
returns c = replies-unique
