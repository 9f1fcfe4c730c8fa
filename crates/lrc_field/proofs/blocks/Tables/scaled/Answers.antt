use Rattle.std.proofs.Common.{◌∙◌, ◌+◌, ◌*◌, ◌/◌, ap, ap₂, bit_xor, get_or}
use Rattle.std.specs.Prelude.{slice_index}
use Rattle.lrc_field.proofs.BlockSums.{by_tables}
use Rattle.lrc_field.proofs.LaneLemmas.{lane_lt}
use Rattle.lrc_field.proofs.blocks.Tables.scaled.Goals as goal

pub returns : goal.returns
returns c = λ s t. record {
  long = c.added.ensures.long;
  each = λ k l.
      c.added.ensures.each k l
      ∙ ap₂ bit_xor
      (c.looked_up-low.ensures.each k l ∙ ap (λ p. get_or c.args.self.low (16 * (k / 16) + p) 0) (c.low_halves.ensures.each k l))
      (c.looked_up-high.ensures.each k l ∙ ap (λ p. get_or c.args.self.high (16 * (k / 16) + p) 0) (c.high_halves.ensures.each k l))
      ∙ by_tables s c.args.self.low c.args.self.high k (slice_index c.args.bytes k) l
      (lane_lt c.args.bytes c.fits-bytes.0 c.fits-bytes.1 k l) t;
}
