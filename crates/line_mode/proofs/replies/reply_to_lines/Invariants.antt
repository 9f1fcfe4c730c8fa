use Rattle.line_mode.proofs.Answering.{Progress}
use Rattle.line_mode.proofs.replies.reply_to_lines.Given as goal

abbrev pub invariant-loop-line : goal.invariant-loop-line
invariant-loop-line l = Progress l.fn.input l.line-iterator.rest.now l.replies
