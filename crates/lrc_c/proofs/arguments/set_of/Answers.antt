use Rattle.std.proofs.Common.{◌+◌, ◌∙◌, sym, subst}
use Rattle.lrc_c.proofs.Masks.{IsSetBelow, set_more, set_same}
use Rattle.lrc_c.proofs.arguments.set_of.Goals.{then-has_bit, else-has_bit}
use Rattle.lrc_c.proofs.arguments.set_of.Goals as goal

pub loop-i-preserved : goal.loop-i-preserved
loop-i-preserved c = elim c.if-has_bit.branch [
  | then-has_bit w ↦ subst (IsSetBelow c.args.mask (c.loop-i.i + 1)) (sym w.set-is)
      (set_more c.args.mask c.loop-i.i c.loop-i.set w.with-set.result w.place_at.result w.place_at.ensures
      (sym c.has_bit.ensures ∙ w.if-has_bit.true) w.with-set.ensures c.loop-i.invariant)
  | else-has_bit w ↦ subst (IsSetBelow c.args.mask (c.loop-i.i + 1)) (sym w.set-is)
      (set_same c.args.mask c.loop-i.i c.loop-i.set (sym c.has_bit.ensures ∙ w.if-has_bit.false) c.loop-i.invariant)
]
