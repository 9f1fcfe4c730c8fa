use Rattle.std.proofs.Common.{◌+◌, ℕ, bit_xor, ap, ◌∙◌, sym}
use Rattle.std.specs.Prelude.{slice_index}
use Rattle.lrc_field.specs.Field.{times}
use Rattle.lrc_field.proofs.TermSums.{six_same, one_product}
use Rattle.lrc_field.proofs.term_sums.six_with_products.Goals as goal

pub returns-then-byte-eq1 : goal.returns-then-byte-eq1
returns-then-byte-eq1 c = λ f h.
    let x = λ (k : ℕ). slice_index c.args.bytes.now (c.args.i + k) in
    let one = sym c.byte.ensures ∙ c.if-byte-eq1.true in
    six_same _ (λ k. bit_xor (f k) (x k)) (λ k. bit_xor (f k) (times c.args.c (x k)))
    (λ k lt. ap (bit_xor (f k)) (one_product c.args.c (x k) one (c.type_inv.bytes (c.args.i + k)).fits)) (c.six_with_bytes.ensures f h)

pub returns-else-byte-eq1 : goal.returns-else-byte-eq1
returns-else-byte-eq1 c = λ f h. c.six_with_products.ensures c.args.c f c.new-tables.ensures h
