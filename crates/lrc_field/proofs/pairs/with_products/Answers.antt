use Rattle.std.proofs.Common.{ℕ, ◌+◌, ◌∙◌, ap, sym}
use Rattle.std.specs.Prelude.{slice_index, bit_xor}
use Rattle.lrc_field.specs.Field.{times}
use Rattle.lrc_field.proofs.TermSums.{trio_same, one_product}
use Rattle.lrc_field.proofs.pairs.with_products.Goals as goal

pub returns-then-byte-eq1-2-clause-first : goal.returns-then-byte-eq1-2-clause-first
returns-then-byte-eq1-2-clause-first c = λ f h.
    let x = λ (k : ℕ). slice_index c.args.bytes.now (c.args.i + k) in
    let one = sym c.byte.ensures ∙ c.if-byte-eq1.true in
    trio_same _ (λ k. bit_xor (f k) (x k)) (λ k. bit_xor (f k) (times c.args.first (x k)))
    (λ k lt. ap (bit_xor (f k)) (one_product c.args.first (x k) one (c.type_inv.bytes (c.args.i + k)).fits))
    (c.added_trio.ensures f x h c.load_trio-trio.ensures)

pub returns-then-byte-eq1-2-clause-second : goal.returns-then-byte-eq1-2-clause-second
returns-then-byte-eq1-2-clause-second c = λ f h.
    let x = λ (k : ℕ). slice_index c.args.bytes.now (c.args.i + k) in
    let one = sym c.byte-then-byte-eq1.ensures ∙ c.if-byte-eq1-2.true in
    trio_same _ (λ k. bit_xor (f k) (x k)) (λ k. bit_xor (f k) (times c.args.second (x k)))
    (λ k lt. ap (bit_xor (f k)) (one_product c.args.second (x k) one (c.type_inv.bytes (c.args.i + k)).fits))
    (c.added_trio-then-byte-eq1-2.ensures f x h c.load_trio-trio.ensures)

pub returns-clause-first : goal.returns-clause-first
returns-clause-first c = λ f h.
    c.trio_with_products.ensures f (λ k. slice_index c.args.bytes.now (c.args.i + k)) h c.load_trio-trio.ensures

pub returns-clause-second : goal.returns-clause-second
returns-clause-second c = λ f h.
    c.trio_with_products-2.ensures f (λ k. slice_index c.args.bytes.now (c.args.i + k)) h c.load_trio-trio.ensures
