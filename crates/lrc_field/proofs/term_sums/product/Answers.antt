use Rattle.std.proofs.Common.{◌∙◌, sym}
use Rattle.lrc_field.proofs.TermSums.{one_product}
use Rattle.lrc_field.proofs.term_sums.product.Goals as goal

pub returns-then-byte-eq1 : goal.returns-then-byte-eq1
returns-then-byte-eq1 c = one_product c.args.c c.args.byte (sym c.byte.ensures ∙ c.if-byte-eq1.true) c.ranges.byte.fits
