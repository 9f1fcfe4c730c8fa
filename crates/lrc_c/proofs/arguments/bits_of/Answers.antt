use Rattle.std.proofs.Common.{◌+◌, ◌∙◌, sym, subst}
use Rattle.lrc_c.proofs.Masks.{AreBitsBelow, bit_more, bit_same}
use Rattle.lrc_c.proofs.arguments.bits_of.Goals.{then-has, else-has}
use Rattle.lrc_c.proofs.arguments.bits_of.Goals as goal

pub loop-i-preserved : goal.loop-i-preserved
loop-i-preserved c = elim c.if-has.branch [
  | then-has w ↦ subst (AreBitsBelow c.args.set (c.loop-i.i + 1)) (sym w.bits-is)
      (bit_more c.args.set c.loop-i.i c.loop-i.bits c.place_at.result c.loop-i-test.true c.place_at.ensures
      (sym c.has.ensures ∙ w.if-has.true) c.loop-i.invariant)
  | else-has w ↦ subst (AreBitsBelow c.args.set (c.loop-i.i + 1)) (sym w.bits-is)
      (bit_same c.args.set c.loop-i.i c.loop-i.bits c.place_at.result c.place_at.ensures
      (sym c.has.ensures ∙ w.if-has.false) c.loop-i.invariant)
]
