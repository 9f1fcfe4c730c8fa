use Rattle.std.proofs.Common.{◌+◌, ◌*◌, ◌%◌, ◌∙◌, ap, arith, get_or}
use Rattle.lrc_field.specs.declared.low_products.TheConstants.{LOW_PRODUCTS}
use Rattle.lrc_field.specs.declared.high_products.TheConstants.{HIGH_PRODUCTS}
use Rattle.lrc_field.proofs.ProductRows.{low_product, high_product}
use Rattle.lrc_field.proofs.blocks.Tables.new.Goals as goal

pub returns : goal.returns
returns c = record {
  low_long = c.line-low.ensures.long;
  high_long = c.line-high.ensures.long;
  low_is = λ k lt. c.line-low.ensures.each k lt ∙ ap (λ b. get_or LOW_PRODUCTS (16 * b + k % 16) 0) c.byte.ensures
      ∙ low_product c.args.scalar (k % 16) (omega arith) (omega arith);
  high_is = λ k lt. c.line-high.ensures.each k lt ∙ ap (λ b. get_or HIGH_PRODUCTS (16 * b + k % 16) 0) c.byte-2.ensures
      ∙ high_product c.args.scalar (k % 16) (omega arith) (omega arith);
}
