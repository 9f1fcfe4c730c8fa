use Rattle.std.proofs.Common.{◌≡◌, ◌<◌, ◌%◌, ◌∙◌, ap, ap₂, bit_xor, arith, get_or}
use Rattle.lrc_field.specs.Field.{times}
use Rattle.lrc_field.proofs.blocks.scale_add_half.Goals as goal

pub returns : goal.returns
returns c = λ s t. record {
  len = c.store_sixteen.ensures.len;
  inside = λ k lt.
      let m : k % 16 ≡ k = omega arith in
      let in_block : k < 32 = omega arith in
      c.store_sixteen.ensures.inside k lt ∙ c.front.ensures.each k lt ∙ c.added.ensures.each k in_block
      ∙ ap₂ bit_xor
      (c.twice-old.ensures.each k in_block ∙ ap (λ n. get_or c.load_sixteen-2.result n 0) m ∙ c.load_sixteen-2.ensures.each k lt)
      ((c.scaled-products.ensures s t).each k in_block ∙ ap (times s)
      (c.twice-bytes.ensures.each k in_block ∙ ap (λ n. get_or c.load_sixteen.result n 0) m ∙ c.load_sixteen.ensures.each k lt));
  below = c.store_sixteen.ensures.below;
  above = c.store_sixteen.ensures.above;
}
