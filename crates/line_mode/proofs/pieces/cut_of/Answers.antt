use Rattle.std.proofs.Common.{◌∙◌, ◌==◌, ◌/◌, ap, length, position, sym}
use Rattle.line_mode.proofs.Cuts.{take-drop_all}
use Rattle.line_mode.proofs.CutReplies.{cut_at}
use Rattle.line_mode.proofs.pieces.cut_of.Goals as goal

pub returns : goal.returns
returns c =
    cut_at c.args.input.now (length c.args.input.now / 2) c.in_ok-end.end
    (ap (position (λ b. b == 10)) (sym (take-drop_all c.args.input.now (length c.args.input.now / 2))) ∙ sym c.find_byte.ensures
    ∙ c.in_ok-end.was)
