use Rattle.lrc_field.specs.Field.{times}
use Rattle.lrc_field.proofs.blocks.trio_with_products.Goals as goal

pub returns : goal.returns
returns c = λ f x h b. c.added_trio.ensures f (λ k. times c.args.c (x k)) h (c.scaled_trio.ensures c.args.c x c.new-tables.ensures b)
