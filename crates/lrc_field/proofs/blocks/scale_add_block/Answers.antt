use Rattle.std.proofs.Common.{◌∙◌, ap, ap₂, bit_xor}
use Rattle.lrc_field.specs.Field.{times}
use Rattle.lrc_field.proofs.blocks.scale_add_block.Goals as goal

pub returns : goal.returns
returns c = λ s t. record {
  len = c.store.ensures.len;
  inside = λ k lt. c.store.ensures.inside k lt ∙ c.added-sums.ensures.each k lt
      ∙ ap₂ bit_xor (c.load-old.ensures.each k lt) ((c.scaled-products.ensures s t).each k lt
      ∙ ap (times s) (c.load-bytes.ensures.each k lt));
  below = c.store.ensures.below;
  above = c.store.ensures.above;
}
